use Rattle.std.proofs.Common.{◌≡◌, List, length}
use Rattle.tape_blocks.specs.{Block.Portion, Spans.join}
use Rattle.tape_run.proofs.{Streams.Streams, Walked.Walked}
use Rattle.tape_run.proofs.extract.front.write_rest.Given as goal

abbrev pub invariant-parts : goal.invariant-parts
invariant-parts g l = Walked g.S.PartSink
    l.fn.sink l.sink
    × ((parts : List Portion) → g.S.PartSink.holds l.fn.sink parts
    → l.front.records ≡ length (join parts).records
    → Streams l.form (g.S.PartWalk.ahead l.sink) l.front.written l.ended l.held.items
    (g.W.Write.contents l.fn.out) (g.W.Write.contents l.out) parts)

abbrev pub decreases-parts : goal.decreases-parts
decreases-parts g l = g.S.PartWalk.left l.sink
