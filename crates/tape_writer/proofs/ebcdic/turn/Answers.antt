use Rattle.std.proofs.Common.{◌≡◌, map, [], arith, sym, ap, ◌∙◌, refl, drop}
use Rattle.std.proofs.lemmas.List.{drop_all}
use Rattle.tape_writer.specs.Coded.{to_ebcdic}
use Rattle.tape_writer.proofs.ebcdic.turn.Goals as goal

pub loop-place-init : goal.loop-place-init
loop-place-init c =
    let e : drop 80 c.args.text.now ≡ [] =
    drop_all 80 c.args.text.now (omega (arith, c.told-text)) in
    record {
      inside = omega arith;
      size = c.told-text;
      front = refl;
      behind = e ∙ sym (ap (λ v. map to_ebcdic v) e);
    }
