use Rattle.std.proofs.Common.{◌++◌, take}
use Rattle.std.proofs.KnownBytes.{Consumes-trans, Appends-trans}
use Rattle.tape_image.proofs.Copies.{front_copied}
use Rattle.tape_image.proofs.convert.copy.Goals as goal

pub reads-preserved : goal.reads-preserved
reads-preserved g c =
    let before = c.reads.invariant.copied in
    let more = take c.in-Ok.read c.read.new.buf in
    record {
      copied = (
        before.0 ++ more,
        Consumes-trans _ _ _ before.0 more before.1 c.in-Ok.ensures.bytes.0,
        Appends-trans _ _ _ before.0 more before.2 c.in-Ok-write_bytes.ensures,
      );
    }

pub returns-in-Err-write_bytes-clause-err : goal.returns-in-Err-write_bytes-clause-err
returns-in-Err-write_bytes-clause-err g c =
    let before = c.reads.invariant.copied in
    front_copied _ _ _ _ _ _ before.0 (take c.in-Ok.read c.read.new.buf) before.1 before.2
    c.in-Ok.ensures.bytes.0 c.in-Err-write_bytes.ensures.1
