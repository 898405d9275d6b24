use Rattle.std.proofs.Common.{◌≡◌, ℕ, List, Result, IfOk, Ok, Err, ap, sym, ◌∙◌, arith, rules}
use Rattle.tape_label.specs.declared.label.LabelFault.{LabelFault}
use Rattle.tape_label.specs.declared.label.LabelFault.TheVariants as faults
use Rattle.tape_label.specs.declared.values.{Kind.Kind, Trail1.Trail1}
use Rattle.tape_label.specs.{Kinds.HasKind, Kinds.IsFirstTrailer, Trail1.IsTrail1}
use Rattle.tape_label.specs.Reading.{trail1_at, end_at}
use Rattle.tape_label.proofs.{First.trail1_found, First.trail1_again, Steps.is_found}
use Rattle.tape_label.proofs.Apart.{trail1_refuses, trail1_none}
use Rattle.tape_label.proofs.reading.read_trail1.Goals as goal

-- what is promised of the result, if it is the function of the block
promised : (label : List ℕ) (result : Result Trail1 LabelFault) → result ≡ trail1_at label
    → record {
      found : IfOk result (IsTrail1 label);
      only : (fields : Trail1) → IsTrail1 label fields → result ≡ Ok fields;
      other : (kind : Kind) → HasKind label kind → (¬ IsFirstTrailer kind)
          → result ≡ Err faults.Identifier;
      fault : result ≡ trail1_at label;
    }
promised label result exact = record {
  found = is_found result (IsTrail1 label) (λ x e. trail1_found label x (sym exact ∙ e));
  only = λ fields is. exact ∙ trail1_again label fields is;
  other = λ kind has other. exact ∙ trail1_refuses label kind has other;
  fault = exact;
}

pub returns-in_err-head : goal.returns-in_err-head
unfolding trail1_at end_at
returns-in_err-head c = promised c.args.label.now c.from_residual.result (search rules)

pub returns-in_err-blocks : goal.returns-in_err-blocks
unfolding trail1_at end_at
returns-in_err-blocks c =
    promised c.args.label.now c.from_residual-in_err-blocks.result (search rules)

pub returns : goal.returns
unfolding trail1_at end_at
returns c = promised c.args.label.now (Ok record {
  eof = c.match-kind-2.eof;
  head = c.in_ok-head.head;
  blocks = c.in_ok-blocks.field-0;
}) (search rules)

pub returns-in_default-clause-fault : goal.returns-in_default-clause-fault
returns-in_default-clause-fault c =
    let none : (kind : Kind) → IsFirstTrailer kind → HasKind c.args.label.now kind → ⊥ =
    λ kind is has.
    let e = c.kind.ensures.only kind has in
    elim c.in_default.branch [
      | goal.in_default-via-in-Some+in_default w ↦ grind arith
      | goal.in_default-via-in_default w ↦ grind arith
    ] in
    ap Err c.no_kind.ensures ∙ sym (trail1_none c.args.label.now none)
