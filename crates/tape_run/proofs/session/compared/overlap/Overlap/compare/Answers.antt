use Rattle.std.proofs.Common.{◌≡◌, Some, subst, inr, refl, arith, rules}
use Rattle.tape_image.specs.{Tape.block, Tape.mark, Reader.seen}
use Rattle.tape_run.specs.Taking.{came_of}
use Rattle.tape_run.proofs.Comparing.{on_true, on_false}
use Rattle.tape_run.proofs.ComparedBlocks.{is_behind, came_front, other_front, other_next}
use Rattle.tape_run.proofs.ComparedBlocks.{other_mark}
use Rattle.tape_run.proofs.session.compared.overlap.Overlap.compare.Goals as goal

pub returns-then-is_same-clause-same : goal.returns-then-is_same-clause-same
returns-then-is_same-clause-same g c same ahead at =
    let (parts, left, r, few, q, h) =
    on_true _ _ c.if-is_same.true c.in_ok-is_same-in-Ok-Some-Block-told.ensures.yes ahead at in
    let came : came_of (seen c.args.told) ≡ Some (block c.in-Ok-Some-Block-told.bytes.now) =
    search rules in (
      left,
      (
        is_behind _ _ c.args.core.now _ c.in-Data.ensures (omega (arith, c.if-seen-self-2.false)),
        inr (came_front c.args.wide c.args.self.now.from c.args.core.now _
            c.in-Ok-Some-Block-told.bytes.now _ c.in-Data.seen c.in-Data.shape came
            c.as_read-content.ensures.value c.in-Data.ensures c.args.self.now.part ahead parts
            left r few q),
      ),
      h,
    )

pub returns-else-is_same-clause-other : goal.returns-else-is_same-clause-other
returns-else-is_same-clause-other g c other ahead at =
    let came : came_of (seen c.args.told) ≡ Some (block c.in-Ok-Some-Block-told.bytes.now) =
    search rules in
    other_front c.args.wide c.args.self.now.from c.args.core.now _
    c.in-Ok-Some-Block-told.bytes.now _ c.in-Data.seen c.in-Data.shape came
    c.as_read-content.ensures.value c.in-Data.ensures c.args.self.now ahead
    (omega (arith, c.if-seen-self-2.false)) (omega (arith, c.if-seen-self.false))
    (omega (arith, c.if-self-eq0.false)) (λ parts left r few q.
    on_false _ _ c.if-is_same.false c.in_ok-is_same-in-Ok-Some-Block-told.ensures.no parts left r few
    (subst (g.S.PartWalk.ahead c.args.sink.now) q at))

pub returns-else-is_next-clause-other : goal.returns-else-is_next-clause-other
returns-else-is_next-clause-other g c other ahead at =
    let came : came_of (seen c.args.told) ≡ Some (block c.in-Ok-Some-Block.bytes.now) =
    search rules in
    other_next c.args.wide c.args.self.now.from c.args.core.now _ c.in-Ok-Some-Block.bytes.now _
    c.in-Data.seen c.in-Data.shape came c.as_read-block.ensures.value c.in-Data.ensures
    c.args.self.now ahead refl (omega (arith, c.if-seen-self.false))
    (omega (arith, c.if-seen-self-2.true)) (λ parts left r q.
    on_false _ _ c.if-is_next.false c.in_ok-is_next-in-Ok-Some-Block.ensures.no parts left r
    (subst (g.S.PartWalk.ahead c.args.sink.now) q at))

pub returns-in-Ok-Some-Mark-clause-other : goal.returns-in-Ok-Some-Mark-clause-other
returns-in-Ok-Some-Mark-clause-other g c other ahead at =
    let came : came_of (seen c.args.told) ≡ Some mark = search rules in
    other_mark c.args.wide c.args.core.now c.args.self.now c.in-Data.seen c.in-Data.shape _ ahead
    c.in-Data.ensures came (omega (arith, c.if-seen-self-2.false))
    (omega (arith, c.if-seen-self.false)) (omega (arith, c.if-self-eq0.false))
