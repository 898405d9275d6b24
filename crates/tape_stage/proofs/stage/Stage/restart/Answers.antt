use Rattle.std.proofs.Common.{◌≡◌, ◌∙◌, inl, inr, subst, sym, ap}
use Rattle.tape_core.specs.Point.{Point}
use Rattle.tape_stage.specs.{Parts.IsFront, Stages.HasNamed}
use Rattle.tape_stage.proofs.{Passing.weaken, Passing.follow, Results.ok_any, Results.on_ok}
use Rattle.tape_stage.proofs.Keeps.{cut_named, frames_cut, saving_front}
use Rattle.tape_stage.proofs.stage.Stage.restart.Given.{Over}
use Rattle.tape_stage.proofs.stage.Stage.restart.Goals.{After-cut_parts}
use Rattle.tape_stage.proofs.stage.Stage.restart.Goals as goal

pub returns-clause-ok : goal.returns-clause-ok
returns-clause-ok g c honest = on_ok c.cut_parts.result
    (λ cut acked parts front is of. cut front parts front
    (c.in_ok-save.ensures.ok honest acked parts front is of)
    (subst (λ (p : Point). IsFront p.staged front parts) (sym c.point.view_is) of))
    (c.cut_parts.ensures.ok (c.in_ok-save.ensures.ends.honest honest))

pub returns-clause-any_moment : goal.returns-clause-any_moment
returns-clause-any_moment g c honest acked parts front is of =
    let k = c.save.new.self in
    let named = c.in_ok-save.ensures.named in
    let point : k.acknowledged ≡ c.args.point.now = named.acknowledged in
    follow g.D.Disk _ _ _ _ (c.save.ensures.any_moment honest acked parts front is of)
    (weaken g.D.Disk _ _ _ _ (λ x now.
    inr (rw (point, named.generation, named.slot) at now))
    (c.cut_parts.ensures.any_moment (c.in_ok-save.ensures.ends.honest honest) front parts
    (c.in_ok-save.ensures.ok honest acked parts front is of)))

pub returns-clause-any_point : goal.returns-clause-any_point
returns-clause-any_point g c honest acked parts is =
    let saved = c.in_ok-save.ensures.any_point honest acked parts is in
    let cut = c.cut_parts.ensures.crash (c.in_ok-save.ensures.ends.honest honest) in
    let staged = ap (λ (p : Point). p.staged) c.point.view_is in
    follow g.D.Disk _ _ _ _
    (weaken g.D.Disk _ _ _ _ (λ x saving. saving_front _ _ _ _ _ _ _ x saving) saved.0)
    (weaken g.D.Disk _ _ _ _ (λ x of. inr (cut_named _ _ _ _ _ x _ staged saved.1 of)) cut)

-- the checkpoint that was saved is named, whether or not the bytes after it were removed
is_named : (g : Over) (c : After-cut_parts g)
    → HasNamed c.args.point.now c.args.self.now c.cut_parts.new.self
is_named g c =
    let cut = c.cut_parts.ensures in
    let saved = c.in_ok-save.ensures.named in
    record {
      acknowledged = cut.acknowledged ∙ saved.acknowledged;
      pending = cut.pending ∙ saved.pending;
      slot = cut.slot.0 ∙ saved.slot;
      generation = cut.slot.1 ∙ saved.generation;
      names = λ honest acked parts is x left. cut_named _ _ _ _ _ x _
          (ap (λ (p : Point). p.staged) c.point.view_is)
          (c.in_ok-save.ensures.any_point honest acked parts is).1
          ((cut.crash (c.in_ok-save.ensures.ends.honest honest)).now x left);
    }

pub returns-clause-named : goal.returns-clause-named
returns-clause-named g c = ok_any c.cut_parts.result
    (is_named g (goal.at.returns-clause-named g c).After-cut_parts)

pub returns-clause-pending : goal.returns-clause-pending
returns-clause-pending g c device =
    inl (is_named g (goal.at.returns-clause-pending g c).After-cut_parts)

pub returns-clause-frames : goal.returns-clause-frames
returns-clause-frames g c honest = on_ok c.cut_parts.result
    (frames_cut _ _ _ _ _ (ap (λ (p : Point). p.staged) c.point.view_is)
    (c.save.ensures.frames honest))
    (c.cut_parts.ensures.cut (c.in_ok-save.ensures.ends.honest honest))
