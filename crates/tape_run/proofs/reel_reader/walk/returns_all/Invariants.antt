use Rattle.std.proofs.Common.{◌≡◌, ◌++◌, List, length}
use Rattle.tape_blocks.specs.{Block.Portion, PartsLeft.parts_left}
use Rattle.tape_run.proofs.{Walked.Walked, Comparing.Compared}
use Rattle.tape_run.proofs.reel_reader.walk.returns_all.Given as goal

abbrev pub invariant-parts : goal.invariant-parts
invariant-parts g l = Walked g.S.PartSink l.fn.sink l.sink
    × Compared (g.S.PartWalk.ahead l.fn.sink) (g.S.PartWalk.ahead l.sink)
    (parts_left l.fn.parts) (parts_left l.rest)

abbrev pub decreases-parts : goal.decreases-parts
decreases-parts g l = length (parts_left l.rest)
