use Rattle.std.proofs.Common.{◌≡◌, ◌+◌, ◌++◌, length, take, arith, length-append}
use Rattle.std.proofs.lemmas.List.{length-take}
use Rattle.std.proofs.KnownBytes.{Consumes-trans, Consumes-kept}
use Rattle.tape_image.proofs.Formats.{leaving_keeps, at_chunk}
use Rattle.tape_image.proofs.format.SimhImage.leave.Goals as goal

pub bytes-preserved : goal.bytes-preserved
bytes-preserved g c =
    let before = c.bytes.invariant in
    let more = take c.in-Ok.read c.read.new.buf in
    record {
      taken = (
        before.taken.0 ++ more,
        Consumes-trans _ _ _ before.taken.0 more before.taken.1 c.in-Ok.ensures.bytes.0,
        omega (
          arith,
          before.taken.2,
          length-append before.taken.0 more,
          c.in-Ok.ensures.bound.0,
          c.in-Ok.ensures.bound.1,
          c.read.auto.buf,
          c.min-most.ensures,
          length-take c.min-most.result c.bytes.waste,
        ),
      );
      format = before.format;
      before = before.before;
      course = before.course;
      out = before.out;
    }

pub returns-in-Err : goal.returns-in-Err
returns-in-Err g c =
    let before = c.bytes.invariant in
    let now = c.args.self.now in
    rw (before.format, before.out)
    (leaving_keeps _ _ now.format
    (at_chunk now.before now.kept.items) now.out now.course c.args.count c.bytes.left
    c.args.word before.taken.0 c.requires.on
    (Consumes-kept _ _ _ before.taken.0 before.taken.1 c.in-Err.ensures.bytes) before.taken.2)

pub returns : goal.returns
returns g c =
    let before = c.bytes.invariant in
    let now = c.args.self.now in
    let all : length before.taken.0 + 0 ≡ c.args.count =
    omega (arith, before.taken.2, c.bytes-test.false) in
    rw (before.format, before.out)
    (leaving_keeps _ _ now.format
    (at_chunk now.before now.kept.items) now.out now.course c.args.count 0 c.args.word
    before.taken.0 c.requires.on before.taken.1 all)
