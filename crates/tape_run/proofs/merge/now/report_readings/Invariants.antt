use Rattle.std.proofs.Common.{map}
use Rattle.tape_run.specs.MergeLines.{line_about}
use Rattle.tape_run.proofs.MergeReports.{ReportsFirst}
use Rattle.tape_run.proofs.merge.now.report_readings.Given as goal

abbrev pub invariant-loop-number : goal.invariant-loop-number
invariant-loop-number g l = ReportsFirst (line_about l.differ (map (λ n. n.now) l.names)) l.number
    l.readings
    (g.P.Write.contents l.fn.report) (g.P.Write.contents l.report)
