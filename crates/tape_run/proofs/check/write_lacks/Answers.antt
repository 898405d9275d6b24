use Rattle.std.proofs.Common.{rules}
use Rattle.tape_image.proofs.Pieces.{on_err}
use Rattle.tape_run.specs.CheckLine.{lack_line}
use Rattle.tape_run.proofs.Reporting.{text_front, text_more}
use Rattle.tape_run.proofs.check.write_lacks.Goals as goal

pub returns-in_err-write_line-clause-front : goal.returns-in_err-write_line-clause-front
returns-in_err-write_line-clause-front g c =
    on_err c.from_residual.result _ (text_front lack_line _ _ _ c.in-Some.lack _
    _ _ _ c.search.invariant c.in-Some.ensures (search rules) c.in_err-write_line.ensures.err)

pub search-preserved : goal.search-preserved
search-preserved g c =
    text_more lack_line _ _ _ c.in-Some.lack _ _ _ _ c.search.invariant
    c.in-Some.ensures (search rules) c.in_ok-write_line.ensures.ok
