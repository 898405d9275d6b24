use Rattle.std.proofs.Common.{◌≡◌, ℕ, List, Result, IfOk, Ok, Err, ap, sym, ◌∙◌, arith, rules}
use Rattle.tape_label.specs.declared.label.LabelFault.{LabelFault}
use Rattle.tape_label.specs.declared.label.LabelFault.TheVariants as faults
use Rattle.tape_label.specs.declared.values.{Kind.Kind, Head2.Head2}
use Rattle.tape_label.specs.{Kinds.HasKind, Kinds.IsSecond, Head2.IsHead2}
use Rattle.tape_label.specs.Reading.{head2_at}
use Rattle.tape_label.proofs.{Second.head2_found, Second.head2_again, Steps.is_found}
use Rattle.tape_label.proofs.Apart.{head2_refuses, head2_none}
use Rattle.tape_label.proofs.reading.read_head2.Goals as goal

-- what is promised of the result, if it is the function of the block
promised : (label : List ℕ) (result : Result Head2 LabelFault) → result ≡ head2_at label → record {
  found : IfOk result (λ fields. (which : Kind) × IsHead2 label which fields);
  only : (which : Kind) (fields : Head2) → IsHead2 label which fields → result ≡ Ok fields;
  other : (kind : Kind) → HasKind label kind → (¬ IsSecond kind)
      → result ≡ Err faults.Identifier;
  fault : result ≡ head2_at label;
}
promised label result exact = record {
  found = is_found result (λ fields. (which : Kind) × IsHead2 label which fields)
      (λ x e. head2_found label x (sym exact ∙ e));
  only = λ which fields is. exact ∙ head2_again label which fields is;
  other = λ kind has other. exact ∙ head2_refuses label kind has other;
  fault = exact;
}

pub returns-in_err-format : goal.returns-in_err-format
unfolding head2_at
returns-in_err-format c = promised c.args.label.now c.from_residual.result (search rules)

pub returns-in_err-rec_len : goal.returns-in_err-rec_len
unfolding head2_at
returns-in_err-rec_len c =
    promised c.args.label.now c.from_residual-in_err-rec_len.result (search rules)

pub returns-in_err-offset : goal.returns-in_err-offset
unfolding head2_at
returns-in_err-offset c =
    promised c.args.label.now c.from_residual-in_err-offset.result (search rules)

pub returns : goal.returns
unfolding head2_at
returns c = promised c.args.label.now (Ok record {
  format = c.in_ok-format.format;
  block_len = c.in_ok-block_len.field-0;
  rec_len = c.in_ok-rec_len.field-0;
  offset = c.in_ok-offset.field-0;
}) (search rules)

pub returns-in_default-clause-fault : goal.returns-in_default-clause-fault
returns-in_default-clause-fault c =
    let none : (kind : Kind) → IsSecond kind → HasKind c.args.label.now kind → ⊥ = λ kind is has.
    let e = c.kind.ensures.only kind has in
    elim c.in_default.branch [
      | goal.in_default-via-in-Some+in_default w ↦ grind arith
      | goal.in_default-via-in_default w ↦ grind arith
    ] in
    ap Err c.no_kind.ensures ∙ sym (head2_none c.args.label.now none)
