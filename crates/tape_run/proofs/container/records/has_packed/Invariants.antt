use Rattle.std.proofs.Common.{◌≡◌, length}
use Rattle.tape_run.specs.ContainerRecords.{packs_from}
use Rattle.tape_run.proofs.container.records.has_packed.Given as goal

abbrev pub invariant-headers : goal.invariant-headers
invariant-headers l = packs_from l.left l.before l.rest ≡ packs_from (length l.front) 0 l.front

abbrev pub decreases-headers : goal.decreases-headers
decreases-headers l = l.left
