use Rattle.std.proofs.Common.{rules, ◌≡◌, Ok, false, ap, ◌∙◌, arith}
use Rattle.tape_blocks.specs.Spans.{leaves}
use Rattle.tape_image.proofs.Pieces.{on_err}
use Rattle.tape_run.proofs.RecordFronts.{front_starts, front_writes, front_failed}
use Rattle.tape_run.proofs.{RecordFronts.front_refused, RecordFronts.front_ended, Walked.walk_on}
use Rattle.tape_run.proofs.extract.front.write_front.Goals as goal

pub parts-init : goal.parts-init
parts-init g c = (
  record {
    calm = c.rewind.ensures.calm;
    kept = c.rewind.ensures.keeps;
    crash = λ parts was. c.rewind.ensures.crash;
  },
  λ parts was. front_starts _ _ _ parts _ (c.rewind.ensures.all parts was)
      (c.weight-weight.ensures.of parts was) c.weight-weight.ensures.limit,
)

pub returns-in_err-write_record-in-Ok-Some-clause-err :
    goal.returns-in_err-write_record-in-Ok-Some-clause-err
returns-in_err-write_record-in-Ok-Some-clause-err g c =
    let next = c.next_part.follows.lender-at-none in
    let ends : leaves c.in-Ok-Some.part.span ≡ false =
    search (rules, c.leaves.ensures, c.if-leaves.false) in
    on_err c.from_residual.result _
    (λ parts was. front_failed c.args.form (g.S.PartWalk.ahead c.parts.sink) (g.S.PartWalk.ahead
    next) c.parts.all c.parts.written c.parts.records _ _ _ parts c.in-Ok-Some.part
    (c.parts.invariant.1 parts was) c.if-all.true
    (λ xs is. rw (c.in-Ok-Some.is ∙ ap Ok c.in-Ok-Some.field-0-is) at
    (c.next_part.follows.holds-at-none.gives xs is))
    ends c.in_err-write_record-in-Ok-Some.ensures.err)

pub parts-preserved-then-all : goal.parts-preserved-then-all
parts-preserved-then-all g c =
    let next = c.next_part.follows.lender-at-none in
    let ends : leaves c.in-Ok-Some.part.span ≡ false =
    search (rules, c.leaves.ensures, c.if-leaves.false) in (
      walk_on _ _ _ _ _ (c.in-Ok-Some.is ∙ ap Ok c.in-Ok-Some.field-0-is) c.parts.invariant.0
          c.next_part.follows.holds-at-none,
      λ parts was. front_writes c.args.form (g.S.PartWalk.ahead c.parts.sink)
          (g.S.PartWalk.ahead next) c.parts.all c.parts.written c.parts.records
          c.saturating_add-records.result _ _ _ parts c.in-Ok-Some.part
          (c.parts.invariant.1 parts was)
          c.if-all.true
          (λ xs is. rw (c.in-Ok-Some.is ∙ ap Ok c.in-Ok-Some.field-0-is) at
          (c.next_part.follows.holds-at-none.gives xs is))
          ends c.in_ok-write_record-in-Ok-Some.ensures.ok
          (λ few. omega (arith, few, c.saturating_add-records.ensures)),
    )

pub returns-in-Ok-None-clause-ok : goal.returns-in-Ok-None-clause-ok
returns-in-Ok-None-clause-ok g c = λ parts was.
    let next = c.next_part.follows.lender-at-none in
    front_ended _ _ (g.S.PartWalk.ahead next) _ _ _ _ _ parts (c.parts.invariant.1 parts was)
    (λ xs is. rw (c.in-Ok-None.is ∙ ap Ok c.in-Ok-None.field-0-is) at
    (c.next_part.follows.holds-at-none.gives xs is))

pub returns-in-Err-clause-err : goal.returns-in-Err-clause-err
returns-in-Err-clause-err g c = λ parts was. front_refused _ _ _ _ _ _ _ parts
    (c.parts.invariant.1 parts was)
