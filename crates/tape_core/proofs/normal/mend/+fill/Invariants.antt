use Rattle.std.proofs.Common.{length}
use Rattle.tape_core.proofs.normal.mend.+fill.Given as goal

abbrev pub decreases-fill : goal.decreases-fill
decreases-fill l = length l.number.now
