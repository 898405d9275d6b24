use Rattle.std.proofs.Common.{length}
use Rattle.tape_run.proofs.salvage.labels.+repeats.Given as goal

abbrev pub decreases-repeats : goal.decreases-repeats
decreases-repeats l = length l.bytes.now
