use Rattle.std.proofs.Common.{refl, sym, ◌∙◌}
use Rattle.tape_core.specs.NormalForm.Codes.{in_ascii}
use Rattle.tape_core.proofs.Labels.{second_other}
use Rattle.tape_core.proofs.normal.machine.second_label.Goals as goal

pub returns-in_default : goal.returns-in_default
returns-in_default c =
    c.other_block.ensures
    ∙ sym (second_other c.args.code c.args.seen (in_ascii c.args.code c.args.bytes.now)
    (c.in_default.ensures.none refl))
