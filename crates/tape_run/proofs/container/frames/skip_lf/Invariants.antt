use Rattle.std.proofs.Common.{◌≡◌, drop}
use Rattle.tape_run.specs.ContainerFrames.{in_lf}
use Rattle.tape_run.proofs.container.frames.skip_lf.Given as goal

abbrev pub invariant-bytes : goal.invariant-bytes
invariant-bytes l = drop l.left (in_lf l.rest) ≡ drop l.count (in_lf l.bytes)

abbrev pub decreases-bytes : goal.decreases-bytes
decreases-bytes l = l.left
