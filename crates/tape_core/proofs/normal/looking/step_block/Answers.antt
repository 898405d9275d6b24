use Rattle.std.proofs.Common.{ap, ◌∙◌}
use Rattle.tape_core.specs.NormalForm.Bytes.{unlabelled}
use Rattle.tape_core.proofs.NormalForm.Giving.{block_shown}
use Rattle.tape_core.proofs.normal.looking.step_block.Goals as goal

pub returns : goal.returns
returns c =
    c.unlabelled-2.ensures ∙ ap unlabelled c.step-2.ensures.exact
    ∙ block_shown c.args.place c.args.word c.args.len c.min-shown.result
    c.if-word-gt-LONGEST_BLOCK.false c.min-shown.ensures
