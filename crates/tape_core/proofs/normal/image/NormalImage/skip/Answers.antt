use Rattle.std.proofs.Common.{◌++◌, take, arith, length-append}
use Rattle.std.proofs.lemmas.List.{length-take}
use Rattle.std.proofs.KnownBytes.{Consumes-trans, Consumes-kept}
use Rattle.tape_core.proofs.NormalForm.Giving.{skipping_keeps}
use Rattle.tape_core.proofs.normal.image.NormalImage.skip.Goals as goal

pub bytes-preserved : goal.bytes-preserved
bytes-preserved g c =
    let before = c.bytes.invariant in
    let more = take c.in-Ok.read c.read.new.buf in
    record {
      taken = (
        before.taken.0 ++ more,
        Consumes-trans _ _ _ before.taken.0 more before.taken.1 c.in-Ok.ensures.bytes.0,
        omega (
          arith,
          before.taken.2,
          length-append before.taken.0 more,
          c.in-Ok.ensures.bound.0,
          c.in-Ok.ensures.bound.1,
          c.read.auto.buf,
          c.min-most.ensures,
          length-take c.min-most.result c.bytes.waste,
        ),
      );
      room = before.room;
      place = before.place;
      course = before.course;
      inserted = before.inserted;
      label = before.label;
    }

pub returns-in-Err-clause-keeps : goal.returns-in-Err-clause-keeps
returns-in-Err-clause-keeps g c =
    let before = c.bytes.invariant in
    let now = c.args.self.now in
    rw (before.room, before.place, before.inserted, before.label)
    (skipping_keeps _ _ now.room now.place now.inserted.now now.label now.course c.args.count
    c.bytes.left before.taken.0 c.requires.on
    (Consumes-kept _ _ _ before.taken.0 before.taken.1 c.in-Err.ensures.bytes) before.taken.2)
