use Rattle.std.proofs.Common.{◌≡◌, ◌+◌, ◌++◌, ◌∙◌, ap, sym, ℕ, List, length, arith}
use Rattle.std.proofs.Common.{length-append, append_assoc}
use Rattle.std.proofs.KnownBytes.{Consumes-trans, Consumes-kept}
use Rattle.tape_image.specs.Format.{with_more}
use Rattle.tape_image.proofs.Formats.{keeping_keeps, keeping_ends, more_twice}
use Rattle.tape_image.proofs.format.SimhImage.keep.Goals as goal

pub bytes-preserved : goal.bytes-preserved
bytes-preserved g c =
    let before = c.bytes.invariant in
    let took = c.in-Ok.ensures in
    record {
      taken = (
        before.taken.0 ++ took.0,
        Consumes-trans _ _ _ before.taken.0 took.0 before.taken.1 took.1,
        omega (arith, before.taken.2, length-append before.taken.0 took.0, took.2, took.3),
        λ zs. ap (λ (l : List ℕ). with_more l zs) took.4
            ∙ more_twice c.bytes.self.kept.items took.0 zs
            ∙ before.taken.3 (took.0 ++ zs)
            ∙ ap (with_more c.args.self.now.kept.items)
            (sym (append_assoc before.taken.0 took.0 zs)),
      );
      format = before.format;
      before = before.before;
      course = before.course;
      out = before.out;
    }

pub returns-in-Err : goal.returns-in-Err
returns-in-Err g c =
    let before = c.bytes.invariant in
    let now = c.args.self.now in
    rw (before.format, before.out)
    (keeping_keeps _ _ now.format now.before now.out now.kept.items c.keep_some.new.kept.items
    now.course c.args.count c.bytes.left c.args.chunk before.taken.0 c.requires.on
    (Consumes-kept _ _ _ before.taken.0 before.taken.1 c.in-Err.ensures.0) before.taken.2
    (λ zs. ap (λ (l : List ℕ). with_more l zs) c.in-Err.ensures.1 ∙ before.taken.3 zs))

pub returns : goal.returns
returns g c =
    let before = c.bytes.invariant in
    let now = c.args.self.now in
    let all : length before.taken.0 + 0 ≡ c.args.count =
    omega (arith, before.taken.2, c.bytes-test.false) in
    rw (before.format, before.out)
    (keeping_keeps _ _ now.format now.before now.out now.kept.items c.bytes.self.kept.items
    now.course c.args.count 0 c.args.chunk before.taken.0 c.requires.on before.taken.1 all
    before.taken.3)

pub returns-in-Ok-eq0 : goal.returns-in-Ok-eq0
returns-in-Ok-eq0 g c =
    let before = c.bytes.invariant in
    let now = c.args.self.now in
    let took = c.in-Ok-eq0.ensures in
    let zero : c.in-Ok-eq0.field-0 ≡ 0 = omega (arith, c.in-Ok-eq0.field-0-test) in
    rw c.cut.ensures
    (keeping_ends _ _ now.format now.before now.out now.kept.items now.course c.args.count
    c.bytes.left c.args.chunk (before.taken.0 ++ took.0) c.requires.out c.requires.on
    (Consumes-trans _ _ _ before.taken.0 took.0 before.taken.1 took.1)
    (omega (arith, before.taken.2, length-append before.taken.0 took.0, took.2, zero))
    (omega (arith, c.bytes-test.true)) (took.5 zero))
