use Rattle.std.proofs.Common.{◌≡◌, ◌+◌, ◌-◌, ◌*◌, length}
use Rattle.tape_run.specs.NextLack.{lacks_from}
use Rattle.tape_run.proofs.report.next_lack.Given as goal

abbrev pub invariant-search : goal.invariant-search
invariant-search l = lacks_from l.sections.entries l.sets.entries l.first l.searched
    ≡ lacks_from l.sections.entries l.sets.entries l.place l.file

abbrev pub decreases-search : goal.decreases-search
decreases-search l = (length l.sets.entries - l.place) * 65536 + (65535 - l.file)
