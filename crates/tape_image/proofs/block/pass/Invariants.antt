use Rattle.std.proofs.Common.{◌-◌, ◌≤◌}
use Rattle.tape_image.specs.Device.{Passes}
use Rattle.tape_image.proofs.block.pass.Given as goal

abbrev pub invariant-pieces : goal.invariant-pieces
invariant-pieces g l = record {
  within : l.done ≤ l.count;
  passed : Passes (g.R.Read.remaining l.fn.device) (g.R.Read.remaining l.device) l.done;
}

abbrev pub decreases-pieces : goal.decreases-pieces
decreases-pieces g l = l.count - l.done
