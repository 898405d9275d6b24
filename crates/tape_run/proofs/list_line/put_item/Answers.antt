use Rattle.std.proofs.Common.{◌≡◌, ◌++◌, length, codes, Result, Err, sym, ap, ◌∙◌, append_assoc}
use Rattle.tape_label.specs.{Digits.digits, Labels.label_at}
use Rattle.tape_label.specs.declared.label.{LabelFault.LabelFault, Label.Label}
use Rattle.tape_run.specs.ListLine.{block_text}
use Rattle.tape_run.proofs.list_line.put_item.Goals as goal

pub returns-in-Err-clause-items : goal.returns-in-Err-clause-items
returns-in-Err-clause-items c =
    let line = c.args.line.now.items in
    let bytes = c.in-Block.bytes.now in
    let size = digits 5 (length bytes) in
    let none : label_at bytes ≡ Err c.in-Err.field-0 =
    sym c.read_label.ensures.exact ∙ c.in-Err.is in
    rw c.in-Block.is (c.put_number.ensures.items ∙ ap (λ l. l ++ size) c.put.ensures.items
    ∙ append_assoc line (codes "BLOCK ") size
    ∙ ap (λ (r : Result Label LabelFault). line ++ block_text r (length bytes)) (sym none))
