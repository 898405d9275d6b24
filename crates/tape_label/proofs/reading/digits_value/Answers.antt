use Rattle.std.proofs.Common.{◌≡◌, true, length, arith, sym, ap, ◌∙◌, Some}
use Rattle.std.proofs.lemmas.Grind.{common_steps}
use Rattle.std.specs.Str.{all_ascii_digits}
use Rattle.tape_label.specs.Digits.{number_of}
use Rattle.tape_label.proofs.DigitLaws.{fits_nineteen, read_all, digits-number_of, number_of-digits}
use Rattle.tape_label.proofs.DigitLaws.{all_ascii_digits-digits}
use Rattle.tape_label.proofs.reading.digits_value.Goals as goal

pub overflow_mul-number : goal.overflow_mul-number
overflow_mul-number c = omega (
  arith,
  fits_nineteen c.loop-byte.number c.loop-byte.byte-index c.loop-byte.invariant.small (omega arith),
)

pub overflow_add-number : goal.overflow_add-number
overflow_add-number c = omega (
  arith,
  fits_nineteen c.loop-byte.number c.loop-byte.byte-index c.loop-byte.invariant.small (omega arith),
)

pub returns-then-not-is_ascii_digit-clause-only : goal.returns-then-not-is_ascii_digit-clause-only
returns-then-not-is_ascii_digit-clause-only c = λ n fits spelled.
    let all : all_ascii_digits c.args.text.now ≡ true =
    rw spelled (all_ascii_digits-digits (length c.args.text.now) n) in
    grind (arith, common_steps)

pub returns-clause-found : goal.returns-clause-found
returns-clause-found c =
    let end = read_all c.loop-byte.number c.loop-byte.byte-index c.args.text.now
    (omega arith) c.loop-byte.invariant.value c.loop-byte.invariant.tests in
    rw end.1 (sym (digits-number_of c.args.text.now end.0))

pub returns-clause-only : goal.returns-clause-only
returns-clause-only c = λ n fits spelled.
    let end = read_all c.loop-byte.number c.loop-byte.byte-index c.args.text.now
    (omega arith) c.loop-byte.invariant.value c.loop-byte.invariant.tests in
    ap (λ n. Some n)
    (end.1 ∙ ap number_of spelled ∙ number_of-digits (length c.args.text.now) n fits)
