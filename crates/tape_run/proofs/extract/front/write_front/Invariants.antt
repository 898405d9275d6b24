use Rattle.std.proofs.Common.{List}
use Rattle.tape_blocks.specs.Block.{Portion}
use Rattle.tape_run.proofs.{RecordFronts.Fronts, Walked.Walked}
use Rattle.tape_run.proofs.extract.front.write_front.Given as goal

abbrev pub invariant-parts : goal.invariant-parts
invariant-parts g l = Walked g.S.PartSink
    l.fn.sink l.sink
    × ((parts : List Portion) → g.S.PartSink.holds l.fn.sink parts
    → Fronts l.form (g.S.PartWalk.ahead l.sink) l.all l.written l.records
    (g.W.Write.contents l.fn.out) (g.W.Write.contents l.out) parts)

abbrev pub decreases-parts : goal.decreases-parts
decreases-parts g l = g.S.PartWalk.left l.sink
