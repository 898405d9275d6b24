use Rattle.std.proofs.Common.{◌≡◌, Err, refl, ap, sym, ◌∙◌, arith}
use Rattle.tape_label.specs.{Kinds.HasKind, Labels.no_kind}
use Rattle.tape_label.specs.declared.values.Kind.TheVariants as kinds
use Rattle.tape_label.specs.declared.label.LabelFault.TheVariants as faults
use Rattle.tape_label.proofs.Apart.{vol1_none}
use Rattle.tape_label.proofs.reading.read_vol1.Goals as goal

pub returns-in_default : goal.returns-in_default
returns-in_default c =
    let label = c.args.label.now in
    let none : HasKind label kinds.Vol1 → ⊥ = λ has.
    let e = c.kind.ensures.only kinds.Vol1 has in
    elim c.in_default.branch [
      | goal.in_default-via-in-Some+in_default w ↦ grind arith
      | goal.in_default-via-in_default w ↦ grind arith
    ] in
    record {
      found = tt;
      only = λ fields is. absurd (none is.kind);
      any = λ has. absurd (none has);
      other = λ kind has other.
          let z : no_kind label ≡ faults.Identifier = rw has.size refl in
          ap Err (c.no_kind.ensures ∙ z);
      fault = ap Err c.no_kind.ensures ∙ sym (vol1_none label none);
    }
