use Rattle.std.proofs.Common.{arith, ◌++◌, take, append_assoc}
use Rattle.std.proofs.{lemmas.Grind.common_steps, KnownBytes.Appends-trans}
use Rattle.tape_image.proofs.put.write_bytes.Goals as goal

pub writes-preserved : goal.writes-preserved
writes-preserved g c =
    let before = c.writes.invariant in (
      before.0 ++ take c.in-Ok.n c.writes.rest.now,
      Appends-trans _ _ _ _ _ before.1 c.in-Ok.ensures.bytes,
      grind (arith, common_steps, before.2, append_assoc),
    )
