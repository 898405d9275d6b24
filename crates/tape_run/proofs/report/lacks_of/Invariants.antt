use Rattle.std.proofs.Common.{◌≡◌, ◌++◌, length}
use Rattle.tape_run.specs.{Lacks.set_lacks, NextLack.lacks_from}
use Rattle.tape_run.proofs.report.lacks_of.Given as goal

abbrev pub invariant-search : goal.invariant-search
invariant-search l = set_lacks l.sections.entries l.sets.entries
    ≡ l.lacks.items ++ lacks_from l.sections.entries l.sets.entries l.place l.file

abbrev pub decreases-search : goal.decreases-search
decreases-search l = length (lacks_from l.sections.entries l.sets.entries l.place l.file)
