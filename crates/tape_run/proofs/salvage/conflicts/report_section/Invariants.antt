use Rattle.std.proofs.Common.{take}
use Rattle.tape_run.proofs.SalvageConflicts.{ComparedSoFar}
use Rattle.tape_run.proofs.salvage.conflicts.report_section.Given as goal

abbrev pub invariant-loop-copy : goal.invariant-loop-copy
invariant-loop-copy g l = ComparedSoFar l.best (take l.copy-index l.copies) l.fn.any l.any
    (g.P.Write.contents l.fn.report) (g.P.Write.contents l.report)
