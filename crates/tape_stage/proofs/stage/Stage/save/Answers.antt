use Rattle.std.proofs.Common.{inl, ◌+◌, take, refl, ap}
use Rattle.tape_stage.proofs.{Giving.front_holding, Passing.nothing, Passing.weaken}
use Rattle.tape_stage.proofs.{SlotSteps.ready_each, Tears.frames_holding}
use Rattle.tape_stage.proofs.Keeps.{gate_test, either_saved, named_staged}
use Rattle.tape_stage.proofs.stage.Stage.save.Goals as goal

pub returns-then-self-ge-MOST_GENERATION-clause-any_moment
    : goal.returns-then-self-ge-MOST_GENERATION-clause-any_moment
returns-then-self-ge-MOST_GENERATION-clause-any_moment g c honest acked parts front is of =
    nothing g.D.Disk _ _ (λ x left. inl (ready_each _ _ _ _ _ _ _ x is.ready left).0)

pub returns-in-Ok-clause-ok : goal.returns-in-Ok-clause-ok
returns-in-Ok-clause-ok g c honest acked parts front is of =
    let s = c.args.self.now in
    let next = c.in-Ok.ensures.done honest s.generation s.acknowledged acked refl is.ready in
    record {
      alive = is.alive;
      ready = record {
        staged = named_staged _ _ _ front _ next.named (frames_holding _ front _ _
            (c.replace_slot.ensures.frames honest)
            (front_holding s.weight _ parts front _ c.requires of is.holds));
        gate = gate_test s.in_second _ next.gate;
        alike = λ x left. ap (take (256 + c.args.point.now.staged))
            (c.in-Ok.ensures.synced.durable honest x left);
      };
      holds = frames_holding _ _ _ _ (c.replace_slot.ensures.frames honest) is.holds;
      behind = c.requires;
    }

pub returns-in-Ok-clause-named : goal.returns-in-Ok-clause-named
returns-in-Ok-clause-named g c = record {
  acknowledged = refl;
  pending = refl;
  slot = refl;
  generation = refl;
  names = λ honest acked parts is x left.
      let s = c.args.self.now in
      let next = c.in-Ok.ensures.done honest s.generation s.acknowledged acked refl is.ready in
      rw (c.in-Ok.ensures.synced.durable honest x left) (
        next.named,
        ap (take c.args.point.now.staged) (c.replace_slot.ensures.frames honest).rest,
      );
}

pub returns-in-Ok-clause-any_moment : goal.returns-in-Ok-clause-any_moment
returns-in-Ok-clause-any_moment g c honest acked parts front is of =
    let s = c.args.self.now in
    weaken g.D.Disk _ _ _ _ (λ x saving. either_saved _ _ _ _ _ front _ x
    (front_holding s.weight _ parts front _ c.requires of is.holds) saving)
    (c.replace_slot.ensures.any_moment honest s.generation s.acknowledged acked refl is.ready)

pub returns-in-Err-clause-any_moment : goal.returns-in-Err-clause-any_moment
returns-in-Err-clause-any_moment g c honest acked parts front is of =
    let s = c.args.self.now in
    weaken g.D.Disk _ _ _ _ (λ x saving. either_saved _ _ _ _ _ front _ x
    (front_holding s.weight _ parts front _ c.requires of is.holds) saving)
    (c.replace_slot.ensures.any_moment honest s.generation s.acknowledged acked refl is.ready)

pub returns-then-self-ge-MOST_GENERATION-clause-any_point
    : goal.returns-then-self-ge-MOST_GENERATION-clause-any_point
returns-then-self-ge-MOST_GENERATION-clause-any_point g c honest acked parts is = (
  nothing g.D.Disk _ _ (λ x left. inl (ready_each _ _ _ _ _ _ _ x is.ready left).0),
  tt,
)

pub returns-in-Ok-clause-any_point : goal.returns-in-Ok-clause-any_point
returns-in-Ok-clause-any_point g c honest acked parts is =
    let s = c.args.self.now in
    let next = c.in-Ok.ensures.done honest s.generation s.acknowledged acked refl is.ready in (
      c.replace_slot.ensures.any_moment honest s.generation s.acknowledged acked refl is.ready,
      λ x left. rw (c.in-Ok.ensures.synced.durable honest x left)
          (next.named, c.replace_slot.ensures.frames honest),
    )

pub returns-in-Err-clause-any_point : goal.returns-in-Err-clause-any_point
returns-in-Err-clause-any_point g c honest acked parts is =
    let s = c.args.self.now in (
      c.replace_slot.ensures.any_moment honest s.generation s.acknowledged acked refl is.ready,
      tt,
    )
