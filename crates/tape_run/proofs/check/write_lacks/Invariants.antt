use Rattle.std.proofs.Common.{length}
use Rattle.tape_run.specs.{CheckLine.lack_line, Lacks.set_lacks, NextLack.lacks_from}
use Rattle.tape_run.proofs.Reporting.{TextsSoFar}
use Rattle.tape_run.proofs.check.write_lacks.Given as goal

abbrev pub invariant-search : goal.invariant-search
invariant-search g l = TextsSoFar lack_line (set_lacks l.sections.entries l.sets.entries)
    (lacks_from l.sections.entries l.sets.entries l.place l.file)
    (g.P.Write.contents l.fn.report) (g.P.Write.contents l.report)

abbrev pub decreases-search : goal.decreases-search
decreases-search g l = length (lacks_from l.sections.entries l.sets.entries l.place l.file)
