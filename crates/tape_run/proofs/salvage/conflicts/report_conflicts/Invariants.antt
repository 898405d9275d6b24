use Rattle.tape_run.proofs.SalvageConflicts.{ReportedSoFar}
use Rattle.tape_run.proofs.salvage.conflicts.report_conflicts.Given as goal

abbrev pub invariant-loop-before : goal.invariant-loop-before
invariant-loop-before g l = ReportedSoFar l.copies l.before l.first l.any
    (g.P.Write.contents l.fn.report) (g.P.Write.contents l.report)
