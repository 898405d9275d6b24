use Rattle.std.proofs.Common.{rules}
use Rattle.tape_run.proofs.SalvageConflicts.{compared_more, compared_front}
use Rattle.tape_image.proofs.Pieces.{on_err}
use Rattle.tape_run.proofs.salvage.conflicts.report_section.Goals as goal

pub loop-copy-preserved : goal.loop-copy-preserved
loop-copy-preserved g c = compared_more _ c.copy-item.result c.args.copies.now
    c.loop-copy.copy-index _ _ _ _ _ _ (search rules) c.copy-item.is c.loop-copy.invariant
    c.in_ok-any.ensures.any
    c.in_ok-any.ensures.text

pub returns-in_err-any-clause-front : goal.returns-in_err-any-clause-front
returns-in_err-any-clause-front g c = on_err c.from_residual.result _
    (rw c.in-Some.is (compared_front c.in-Some.best c.copy-item.result
    c.args.copies.now c.loop-copy.copy-index _ _ _ _ _ (search rules) c.copy-item.is
    c.loop-copy.invariant c.in_err-any.ensures.front))
