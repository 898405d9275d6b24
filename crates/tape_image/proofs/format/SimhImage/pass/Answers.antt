use Rattle.std.proofs.Common.{◌≡◌, ◌-◌, ◌≤◌, ◌<◌, length-append, ◌++◌, length, take, drop}
use Rattle.std.proofs.Common.{arith}
use lib.Seq.{take-append-le}
use Rattle.std.proofs.lemmas.Bool.Decides.{nat_tests}
use Rattle.std.proofs.lemmas.List.{length-take}
use Rattle.tape_image.proofs.Formats.{passing_gives, passing_ends, at_chunk}
use Rattle.tape_image.proofs.format.SimhImage.pass.Goals as goal

pub returns-then-read-eq0 : goal.returns-then-read-eq0
returns-then-read-eq0 g c =
    let now = c.args.self.now in
    let p = c.args.passed in
    let most = c.min-most.result in
    let zero : c.in_ok-read.read ≡ 0 = grind (arith, nat_tests, c.if-read-eq0.true) in
    let size : length c.read.new.buf ≡ most =
    omega (arith, c.read.auto.buf, length-take most c.args.buf.now, c.min-most.ensures) in
    let some : 0 < length c.read.new.buf =
    omega (arith, size, c.requires.room, c.min-most.ensures, c.if-count-eq0.false) in
    passing_ends _ _ now.format
    (at_chunk now.before now.kept.items) now.out now.course p.count p.last p.tail c.requires.on
    (rw (zero) at c.in_ok-read.ensures.bytes.0) (c.in_ok-read.ensures.bytes.1 zero some)

pub returns : goal.returns
returns g c =
    let now = c.args.self.now in
    let p = c.args.passed in
    let n = c.in_ok-read.read in
    let most = c.min-most.result in
    let part = c.read.new.buf in
    let bound = c.in_ok-read.ensures.bound in
    let size : length part ≡ most =
    omega (arith, c.read.auto.buf, length-take most c.args.buf.now, c.min-most.ensures) in
    let all : n ≤ length (part ++ drop most c.args.buf.now) =
    omega (arith, bound.0, length-append part (drop most c.args.buf.now)) in
    rw (take-append-le n part (drop most c.args.buf.now) bound.0) (
      all,
      passing_gives _ _ now.format (at_chunk now.before now.kept.items) now.out now.course p.count
          (p.count - n) p.last
          p.tail (take n part) c.requires.out c.requires.on c.in_ok-read.ensures.bytes.0
          (omega (arith, bound.0, bound.1, size, c.min-most.ensures)),
      λ z. absurd (omega (arith, z, c.if-read-eq0.false)),
    )
