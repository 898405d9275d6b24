use Rattle.std.proofs.Common.{◌≡◌, ◌+◌, length, take, ◌∙◌, ap, arith}
use Rattle.std.proofs.lemmas.List.{take-take, length-take-le}
use Rattle.tape_stage.proofs.Keeps.{front_staged, still_ready}
use Rattle.tape_stage.proofs.{Passing.stands, Tears.alike_holding, Giving.front_holding}
use Rattle.tape_stage.proofs.stage.Stage.cut_parts.Goals as goal

pub returns-in-Ok-clause-ok : goal.returns-in-Ok-clause-ok
returns-in-Ok-clause-ok g c honest acked parts front is of =
    let s = c.args.self.now in
    let old = g.D.Disk.seen s.disk in
    let holding = front_holding _ _ _ _ _ c.requires.there of is.holds in
    let n = 256 + c.args.staged in
    let new = g.D.Disk.seen c.cut.new.self in
    let cut : new ≡ take n old = c.in-Ok.ensures.cut honest in
    let long : length new ≡ n =
    ap length cut ∙ length-take-le n old (omega (arith, holding.long)) in
    let same : take n new ≡ take n old = ap (take n) cut ∙ take-take n n old (omega arith) in
    record {
      alive = is.alive;
      ready = still_ready _ _ _ _ _ n _ _ _ _ (omega (arith, c.requires.behind)) is.ready same
          (omega (arith, long)) (λ x left. let from = c.cut.ensures.crash honest x left in
          (from.0, from.1, from.2.front));
      holds = alike_holding n _ _ _ new (omega arith) same (omega (arith, long)) holding;
      behind = c.requires.behind;
    }

pub returns-in-Ok-clause-any_moment : goal.returns-in-Ok-clause-any_moment
returns-in-Ok-clause-any_moment g c honest acked parts is =
    stands g.D.Disk _ _ _ (c.cut.ensures.time honest) (λ x left.
    let from = c.cut.ensures.crash honest x left in
    front_staged _ _ _ _ _ (256 + c.args.staged) _ _ x (omega (arith, c.requires.behind)) is.ready
    (from.0, from.1, from.2.front))

pub returns-in-Err-clause-any_moment : goal.returns-in-Err-clause-any_moment
returns-in-Err-clause-any_moment g c honest acked parts is =
    stands g.D.Disk _ _ _ (c.cut.ensures.time honest) (λ x left.
    let from = c.cut.ensures.crash honest x left in
    front_staged _ _ _ _ _ (256 + c.args.staged) _ _ x (omega (arith, c.requires.behind)) is.ready
    (from.0, from.1, from.2.front))
