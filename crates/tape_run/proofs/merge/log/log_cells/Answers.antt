use Rattle.std.proofs.Common.{arith, rules, subst}
use Rattle.std.specs.Io.KnownBytes.{Appends}
use Rattle.tape_run.specs.MergeLog.{verdict_cell}
use Rattle.tape_run.proofs.MergeReports.{reports_more, reports_all}
use Rattle.tape_run.proofs.MergeRows.{lines_flat}
use Rattle.tape_run.proofs.merge.log.log_cells.Goals as goal

pub loop-reading-preserved : goal.loop-reading-preserved
loop-reading-preserved g c = reports_more (λ _ r. verdict_cell r.verdict) _ _ _ _ _ _ _
    (search rules) c.reading-item.is c.cell.ensures c.loop-reading.invariant
    c.in_ok-write_text.ensures.ok

pub returns : goal.returns
returns g c = subst (λ t. Appends (g.G.Write.contents c.args.log.now)
    (g.G.Write.contents c.loop-reading.log) t)
    (lines_flat (λ r. verdict_cell r.verdict) 0 c.args.readings.now)
    (reports_all (λ _ r. verdict_cell r.verdict) c.loop-reading.reading-index c.args.readings.now
    (g.G.Write.contents c.args.log.now) (g.G.Write.contents c.loop-reading.log) (omega arith)
    c.loop-reading.invariant)
