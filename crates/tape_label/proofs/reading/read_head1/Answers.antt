use Rattle.std.proofs.Common.{◌≡◌, Err, refl, ap, sym, ◌∙◌, arith, rules}
use Rattle.tape_label.specs.{Kinds.HasKind, Labels.no_kind, Head1.IsHead1, Reading.head1_at}
use Rattle.tape_label.specs.declared.values.Kind.TheVariants as kinds
use Rattle.tape_label.proofs.{First.head1_found, First.head1_again, Steps.is_found}
use Rattle.tape_label.specs.declared.label.LabelFault.TheVariants as faults
use Rattle.tape_label.proofs.Apart.{head1_none}
use Rattle.tape_label.proofs.reading.read_head1.Goals as goal

pub returns-clause-found : goal.returns-clause-found
unfolding head1_at
returns-clause-found c =
    let exact : c.head_at.result ≡ head1_at c.args.label.now = search rules in
    is_found c.head_at.result (IsHead1 c.args.label.now)
    (λ x e. head1_found c.args.label.now x (sym exact ∙ e))

pub returns-clause-only : goal.returns-clause-only
unfolding head1_at
returns-clause-only c =
    let exact : c.head_at.result ≡ head1_at c.args.label.now = search rules in
    λ x is. exact ∙ head1_again c.args.label.now x is

pub returns-in_default : goal.returns-in_default
returns-in_default c =
    let label = c.args.label.now in
    let none : HasKind label kinds.Hdr1 → ⊥ = λ has.
    let e = c.kind.ensures.only kinds.Hdr1 has in
    elim c.in_default.branch [
      | goal.in_default-via-in-Some+in_default w ↦ grind arith
      | goal.in_default-via-in_default w ↦ grind arith
    ] in
    record {
      found = tt;
      only = λ fields is. absurd (none is.kind);
      other = λ kind has other.
          let z : no_kind label ≡ faults.Identifier = rw has.size refl in
          ap Err (c.no_kind.ensures ∙ z);
      fault = ap Err c.no_kind.ensures ∙ sym (head1_none label none);
    }
