use Rattle.std.proofs.Common.{refl}
use Rattle.tape_label.proofs.DigitLaws.{all_ascii_digits-digits, number_of-digits}
use Rattle.tape_label.proofs.laws.digits_again.Goals as goal

pub returns : goal.returns
returns g c =
    rw (
      c.digits_value.ensures.exact,
      c.digits_of.ensures,
      all_ascii_digits-digits g.row.W c.args.number,
      number_of-digits g.row.W c.args.number c.requires.fits,
    ) refl
