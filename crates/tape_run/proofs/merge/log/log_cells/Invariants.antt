use Rattle.tape_run.specs.MergeLog.{verdict_cell}
use Rattle.tape_run.proofs.MergeReports.{ReportsFirst}
use Rattle.tape_run.proofs.merge.log.log_cells.Given as goal

abbrev pub invariant-loop-reading : goal.invariant-loop-reading
invariant-loop-reading g l = ReportsFirst (λ _ r. verdict_cell r.verdict) l.reading-index l.readings
    (g.G.Write.contents l.fn.log) (g.G.Write.contents l.log)
