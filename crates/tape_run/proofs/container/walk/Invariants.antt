use Rattle.std.proofs.Common.{◌≡◌, length, false}
use Rattle.tape_run.specs.Container.{walked_from}
use Rattle.tape_run.proofs.container.walk.Given as goal

abbrev pub invariant-items : goal.invariant-items
invariant-items l = walked_from l.left l.block l.rest ≡ walked_from (length l.front) false l.front

abbrev pub decreases-items : goal.decreases-items
decreases-items l = l.left
