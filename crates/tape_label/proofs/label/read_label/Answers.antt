use Rattle.std.proofs.Common.{◌≡◌, ◌∙◌, Result, Err, rules}
use Rattle.tape_label.specs.declared.label.LabelFault.{LabelFault}
use Rattle.tape_label.specs.{declared.label.Label.Label, Labels.label_at}
use Rattle.tape_label.proofs.AnyLabel.{label_again}
use Rattle.tape_label.proofs.label.read_label.Goals as goal

pub returns-in-None-clause-only : goal.returns-in-None-clause-only
unfolding label_at
returns-in-None-clause-only c =
    let none : Result Label LabelFault = Err c.no_kind.result in
    let exact : none ≡ label_at c.args.block.now = search rules in
    λ label is. exact ∙ label_again c.args.block.now label is
