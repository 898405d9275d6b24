use Rattle.std.proofs.Common.{rules, ◌≡◌, ◌<◌, ◌≤◌, Ok, ap, ◌∙◌, arith, inr, refl, ◌+◌}
use Rattle.tape_blocks.specs.Spans.{leaves}
use Rattle.tape_image.proofs.Pieces.{on_err}
use Rattle.tape_run.specs.OutSinks.{with_end}
use Rattle.tape_run.proofs.Streams.{stream_starts, stream_skips, stream_writes, stream_failed}
use Rattle.tape_run.proofs.{Streams.stream_ended, Streams.stream_short, Walked.walk_on}
use Rattle.tape_run.proofs.extract.front.write_rest.Goals.{else-ended-front}
use Rattle.tape_run.proofs.extract.front.write_rest.Goals as goal
use Rattle.tape_run.proofs.extract.front.write_rest.Goals.{
  then-ended-front+in_ok-write_part-in-Ok-Some,
}

pub parts-init : goal.parts-init
parts-init g c = (
  record {
    calm = c.rewind.ensures.calm;
    kept = c.rewind.ensures.keeps;
    crash = λ parts was. c.rewind.ensures.crash;
  },
  λ parts was e. stream_starts _ _ _ _ _ parts (search rules) (c.rewind.ensures.all parts was),
)

pub returns-in_err-write_part-in-Ok-Some-clause-err :
    goal.returns-in_err-write_part-in-Ok-Some-clause-err
returns-in_err-write_part-in-Ok-Some-clause-err g c =
    let next = c.next_part.follows.lender-at-none in
    let more : c.parts.ended < c.args.front.records = omega (arith, c.parts-test.true) in
    let le : c.args.front.written ≤ c.parts.ended = omega (arith, c.if-ended-front.true) in
    on_err c.from_residual.result _
    (λ parts was e. stream_failed c.args.form (g.S.PartWalk.ahead c.parts.sink) (g.S.PartWalk.ahead
    next) c.args.front.written c.parts.ended c.args.front.records _ _ _ _ parts c.in-Ok-Some.part
    (c.parts.invariant.1 parts was e) le more e
    (λ xs is. rw (c.in-Ok-Some.is ∙ ap Ok c.in-Ok-Some.field-0-is) at
    (c.next_part.follows.holds-at-none.gives xs is))
    c.in_err-write_part-in-Ok-Some.ensures.err)

pub parts-preserved : goal.parts-preserved
parts-preserved g c =
    let next = c.next_part.follows.lender-at-none in
    let more : c.parts.ended < c.args.front.records = omega (arith, c.parts-test.true) in
    let same : c.parts.ended + c.from-ended.result
    ≡ with_end (leaves c.in-Ok-Some.part.span) c.parts.ended =
    search (rules, c.leaves-leaves.ensures, c.from-ended.ensures) in
    let on = walk_on _ _ _ _ _ (c.in-Ok-Some.is ∙ ap Ok c.in-Ok-Some.field-0-is)
    c.parts.invariant.0 c.next_part.follows.holds-at-none in
    elim c.if-ended-front.branch [
      | then-ended-front+in_ok-write_part-in-Ok-Some w ↦ rw (w.sink-is, w.out-is, w.held-is) (
        on,
        λ parts was e. stream_writes c.args.form (g.S.PartWalk.ahead c.parts.sink)
            (g.S.PartWalk.ahead next) c.args.front.written c.parts.ended _ c.args.front.records
            _ _ _ _ _ parts c.in-Ok-Some.part (c.parts.invariant.1 parts was e)
            (omega (arith, w.if-ended-front.true)) more e
            (λ xs is. rw (c.in-Ok-Some.is ∙ ap Ok c.in-Ok-Some.field-0-is) at
            (c.next_part.follows.holds-at-none.gives xs is))
            w.in_ok-write_part-in-Ok-Some.ensures.ok
            w.in_ok-write_part-in-Ok-Some.ensures.holds
            same,
      )
      | else-ended-front w ↦ rw (w.sink-is, w.out-is, w.held-is) (
        on,
        λ parts was e. stream_skips c.args.form (g.S.PartWalk.ahead c.parts.sink)
            (g.S.PartWalk.ahead next) c.args.front.written c.parts.ended _ _ _ _ parts
            c.in-Ok-Some.part (c.parts.invariant.1 parts was e)
            (omega (arith, w.if-ended-front.false))
            (λ xs is. rw (c.in-Ok-Some.is ∙ ap Ok c.in-Ok-Some.field-0-is) at
            (c.next_part.follows.holds-at-none.gives xs is))
            same,
      )
    ]

pub returns-in-Ok-None-clause-cause : goal.returns-in-Ok-None-clause-cause
returns-in-Ok-None-clause-cause g c =
    let next = c.next_part.follows.lender-at-none in
    let more : c.parts.ended < c.args.front.records = omega (arith, c.parts-test.true) in
    rw c.walk_fault.ensures (inr (
      refl,
      λ parts (was, e). stream_short c.args.form
          (g.S.PartWalk.ahead c.parts.sink) (g.S.PartWalk.ahead next) c.args.front.written
          c.parts.ended
          c.args.front.records _ _ _ parts (c.parts.invariant.1 parts was e) more e
          (λ xs is. rw (c.in-Ok-None.is ∙ ap Ok c.in-Ok-None.field-0-is) at
          (c.next_part.follows.holds-at-none.gives xs is)),
    ))

pub returns-clause-ok : goal.returns-clause-ok
returns-clause-ok g c = λ parts was e. stream_ended c.args.form _ c.args.front.written c.parts.ended
    c.args.front.records _ _ _ parts (c.parts.invariant.1 parts was e)
    (omega (arith, c.parts-test.false)) e
