use Rattle.tape_writer.proofs.inputs.Cutting.{slice_range-advance}
use Rattle.tape_writer.proofs.inputs.chunk.Chunk.skip.Goals as goal

pub returns : goal.returns
returns c =
    let w = c.self.inside in
    rw (← c.self.view_is) (rw c.min.ensures (slice_range-advance w.bytes.items w.start w.end _))
