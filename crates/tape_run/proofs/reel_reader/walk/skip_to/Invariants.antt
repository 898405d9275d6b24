use Rattle.std.proofs.Common.{◌≡◌, ◌++◌, ◌+◌, List}
use Rattle.tape_blocks.specs.Block.{Portion}
use Rattle.tape_run.proofs.{Walked.Walked, Comparing.Skipped}
use Rattle.tape_run.proofs.reel_reader.walk.skip_to.Given as goal

abbrev pub invariant-parts : goal.invariant-parts
invariant-parts g l = Walked g.S.PartSink l.fn.sink l.sink
    × Skipped (g.S.PartSink.holds l.fn.sink) (g.S.PartWalk.ahead l.sink) l.fn.weight l.left

abbrev pub decreases-parts : goal.decreases-parts
decreases-parts g l = l.left
