use Rattle.std.proofs.Common.{arith, ◌≤◌, length}
use Rattle.tape_run.proofs.SalvagePieces.{content_short}
use Rattle.tape_run.proofs.salvage.mender.Mender.take.Goals as goal

pub put_front-requires : goal.put_front-requires
put_front-requires g c =
    let s = c.shape_of-shape.result in
    let short : length c.content-block.result.now ≤ length c.args.block.now =
    rw c.content-block.ensures (content_short s.format s.rec_len s.offset _) in
    record { short = omega (arith, short, c.front_to.ensures.short, c.requires.short) }
