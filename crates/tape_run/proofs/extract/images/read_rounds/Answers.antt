use Rattle.std.proofs.Common.{[], refl, inr, arith}
use Rattle.tape_run.proofs.{Causes.calm_same, Causes.calm_then, Causes.then_fails, Ended.told_err}
use Rattle.tape_run.proofs.Rounds.{none_gone, gone_on, takes_rounds, stops_round, enough_by}
use Rattle.tape_run.proofs.Rounds.{not_none, not_same}
use Rattle.tape_run.proofs.extract.images.read_rounds.Goals as goal

pub rounds-init : goal.rounds-init
rounds-init g c = (
  [],
  refl,
  omega (arith, c.count-count.type_inv),
  none_gone _ _ _ _ _ _ _ _ _,
  calm_same _ _,
)

pub rounds-preserved : goal.rounds-preserved
rounds-preserved g c =
    let (rounds, e, room, h, calm) = c.rounds.invariant in
    let (again, some, other) = c.if-is_enough.ensures.no in
    let (more, count, gone) = gone_on _ _ _ _ _ _ _ _ _ _ _ _ _ _ _ _ rounds again h e
    c.in_ok-read_round.ensures.ok (not_none _ _ c.want.ensures some)
    (not_same _ _ _ _ c.want-before.ensures c.want.ensures other) in (
      more,
      count,
      omega (arith, room, c.if-lines-count.false),
      gone,
      calm_then _ _ _ _ calm c.in_ok-read_round.ensures.calm,
    )

pub returns-in_err-read_round-clause-err : goal.returns-in_err-read_round-clause-err
returns-in_err-read_round-clause-err g c =
    let (rounds, e, room, h, calm) = c.rounds.invariant in
    told_err _ _ _ c.from_residual.ensures.1 (stops_round _ _ _ _ _ _ _ _ _ _ _ _ _ _ _ _ _ rounds _
    c.count-count.ensures e h c.in_err-read_round.ensures.err)

pub returns-then-is_enough-clause-ok : goal.returns-then-is_enough-clause-ok
returns-then-is_enough-clause-ok g c =
    let (rounds, e, room, h, calm) = c.rounds.invariant in
    takes_rounds _ _ _ _ _ _ _ _ _ _ _ _ _ _ _ _ _ rounds c.count-count.ensures e h
    c.in_ok-read_round.ensures.ok (λ more. enough_by _ _ _ _ _ _ c.want-before.ensures
    c.want.ensures (c.if-is_enough.ensures.yes more))

pub returns-then-lines-count-clause-ok : goal.returns-then-lines-count-clause-ok
returns-then-lines-count-clause-ok g c =
    let (rounds, e, room, h, calm) = c.rounds.invariant in
    takes_rounds _ _ _ _ _ _ _ _ _ _ _ _ _ _ _ _ _ rounds c.count-count.ensures e h
    c.in_ok-read_round.ensures.ok (λ more. inr (inr (omega (arith, room, c.if-lines-count.true))))

pub returns-in_err-read_round-clause-cause : goal.returns-in_err-read_round-clause-cause
returns-in_err-read_round-clause-cause g c =
    let (rounds, e, room, h, calm) = c.rounds.invariant in
    told_err _ _ _ c.from_residual.ensures.1 (then_fails _ _ _ _ _ _ _ calm
    c.in_err-read_round.ensures.cause)
