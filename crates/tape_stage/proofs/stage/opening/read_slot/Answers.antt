use Rattle.std.proofs.Common.{sym, ◌∙◌, ap, rules}
use Rattle.std.specs.Result.{result_ok}
use Rattle.tape_stage.proofs.Bodies.{body_none, body_some, none_seen}
use Rattle.tape_stage.proofs.Tears.{open_reads}
use Rattle.tape_stage.proofs.stage.opening.read_slot.Goals as goal

pub returns-in_err-generation-clause-says : goal.returns-in_err-generation-clause-says
returns-in_err-generation-clause-says c = open_reads _ _ c.if-gate-ne-OPEN.false
    ∙ body_none c.args.body.now
    (sym c.digits_value.ensures.exact ∙ c.in_err-generation.was) ∙ none_seen _ (search rules)

pub returns-in-Ok-clause-says : goal.returns-in-Ok-clause-says
returns-in-Ok-clause-says c = open_reads _ _ c.if-gate-ne-OPEN.false
    ∙ body_some c.args.body.now c.in_ok-generation.generation _
    (sym c.in_ok-generation.ensures.exact) (ap result_ok (sym c.in-Ok.ensures.exact))

pub returns-in-Err-clause-says : goal.returns-in-Err-clause-says
returns-in-Err-clause-says c = open_reads _ _ c.if-gate-ne-OPEN.false
    ∙ body_some c.args.body.now c.in_ok-generation.generation _
    (sym c.in_ok-generation.ensures.exact) (ap result_ok (sym c.in-Err.ensures.exact))
