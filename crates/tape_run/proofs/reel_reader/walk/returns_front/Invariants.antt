use Rattle.std.proofs.Common.{◌≡◌, ◌++◌, List}
use Rattle.tape_blocks.specs.PartsLeft.{parts_left}
use Rattle.tape_run.proofs.{Walked.Walked, Comparing.ComparedFront}
use Rattle.tape_run.proofs.reel_reader.walk.returns_front.Given as goal

abbrev pub invariant-parts : goal.invariant-parts
invariant-parts g l = Walked g.S.PartSink l.fn.sink l.sink
    × ComparedFront (g.S.PartWalk.ahead l.fn.sink) (g.S.PartWalk.ahead l.sink)
    (parts_left l.fn.parts) (parts_left l.rest) l.fn.count l.left

abbrev pub decreases-parts : goal.decreases-parts
decreases-parts g l = l.left
