use Rattle.std.proofs.Common.{◌≡◌, ◌∙◌, ℕ, List, ◌++◌, false, refl, sym, ap, inl}
use Rattle.tape_blocks.specs.Block.{Portion}
use Rattle.tape_core.specs.{Crash.AddsOnly, Crash.IsThis, Point.Point, Stands.weight_of}
use Rattle.tape_stage.specs.{Parts.IsFront, Stages.Holds, Stages.crashes_of}
use Rattle.tape_stage.specs.declared.stage.Stage.{Stage}
use Rattle.tape_stage.proofs.stage.putting.StagePartSink.cut_to.Goals.{After-cut_parts}
use Rattle.tape_stage.proofs.{Backs.adds_this, Passing.weaken, Keeps.frames_cut, Keeps.frames_same}
use Rattle.tape_stage.proofs.{Held.stage_holds, stage.putting.StagePartSink.cut_to.Given.Over}
use Rattle.tape_stage.proofs.stage.putting.StagePartSink.cut_to.Goals.{After-restart}
use Rattle.tape_stage.proofs.stage.putting.StagePartSink.cut_to.Goals as goal

-- parts that precede others are the first parts of their weight
front_of : (staged : ℕ) (front rest : List Portion) → weight_of front ≡ staged
    → IsFront staged front (front ++ rest)
front_of staged front rest weighs = record { rest = rest; whole = refl; weighs = weighs }

-- ---- parts are removed that were not acknowledged

pub returns-in-Ok-clause-frames : goal.returns-in-Ok-clause-frames
returns-in-Ok-clause-frames g c honest =
    frames_cut _ _ _ _ _ (ap (λ (p : Point). p.staged) c.point.view_is) (frames_same _ _ refl)
    (c.in-Ok.ensures.cut honest)

pub returns-in-Ok-clause-ok : goal.returns-in-Ok-clause-ok
returns-in-Ok-clause-ok g c front rest holds weighs =
    let s = c.args.self.now in
    let alive = c.in-Ok.ensures.ends.was_alive in
    let honest = holds.honest (s.settled (s.usable alive)) in
    let (acked, was) = holds.ready alive in
    stage_holds (c.in-Ok.ensures.ends.honest honest) (c.in-Ok.ensures.ok honest acked
    (front ++ rest) front was
    (front_of _ front rest (weighs ∙ sym (ap (λ (p : Point). p.staged) c.point.view_is))))

cut_adds : (g : Over) (c : After-cut_parts g) (front rest : List Portion)
    → Holds c.args.self.now (front ++ rest) → AddsOnly (IsThis c.args.point.now front)
    (crashes_of c.args.self.now) (crashes_of c.cut_parts.new.self)
cut_adds g c front rest holds =
    let s = c.args.self.now in
    let alive : s.failed ≡ false = sym (ap (λ (z : Stage g.row.D.Denot g.D.Disk). z.failed)
    c.self.view_is) ∙ c.if-self.false in
    let honest = holds.honest (s.settled (s.usable alive)) in
    let (acked, was) = holds.ready alive in
    adds_this s c.cut_parts.new.self acked (front ++ rest) front c.args.point.now
    (g.met.D.Disk.seen_now s.disk honest) was (weaken g.D.Disk _ _ _ _ (λ x staged. inl staged)
    (c.cut_parts.ensures.any_moment honest acked (front ++ rest) was))

pub returns-in-Ok-clause-crash : goal.returns-in-Ok-clause-crash
returns-in-Ok-clause-crash g c front rest holds weighs =
    cut_adds g (goal.at.returns-in-Ok-clause-crash g c).After-cut_parts front rest holds

pub returns-in-Err-clause-crash : goal.returns-in-Err-clause-crash
returns-in-Err-clause-crash g c front rest holds weighs =
    cut_adds g (goal.at.returns-in-Err-clause-crash g c).After-cut_parts front rest holds

-- ---- acknowledged parts are removed

pub returns-in-Ok-restart-clause-ok : goal.returns-in-Ok-restart-clause-ok
returns-in-Ok-restart-clause-ok g c front rest holds weighs =
    let s = c.args.self.now in
    let alive = c.in-Ok-restart.ensures.ends.was_alive in
    let honest = holds.honest (s.settled (s.usable alive)) in
    let (acked, was) = holds.ready alive in
    stage_holds (c.in-Ok-restart.ensures.ends.honest honest) (c.in-Ok-restart.ensures.ok honest
    acked (front ++ rest) front was (front_of _ front rest weighs))

restart_adds : (g : Over) (c : After-restart g) (front rest : List Portion)
    → Holds c.args.self.now (front ++ rest) → weight_of front ≡ c.args.point.now.staged
    → AddsOnly (IsThis c.args.point.now front) (crashes_of c.args.self.now)
    (crashes_of c.restart.new.self)
restart_adds g c front rest holds weighs =
    let s = c.args.self.now in
    let alive : s.failed ≡ false = sym (ap (λ (z : Stage g.row.D.Denot g.D.Disk). z.failed)
    c.self.view_is) ∙ c.if-self.false in
    let honest = holds.honest (s.settled (s.usable alive)) in
    let (acked, was) = holds.ready alive in
    adds_this s c.restart.new.self acked (front ++ rest) front c.args.point.now
    (g.met.D.Disk.seen_now s.disk honest) was (c.restart.ensures.any_moment honest acked
    (front ++ rest) front was (front_of _ front rest weighs))

pub returns-in-Ok-restart-clause-crash : goal.returns-in-Ok-restart-clause-crash
returns-in-Ok-restart-clause-crash g c =
    restart_adds g (goal.at.returns-in-Ok-restart-clause-crash g c).After-restart

pub returns-in-Err-restart-clause-crash : goal.returns-in-Err-restart-clause-crash
returns-in-Err-restart-clause-crash g c =
    restart_adds g (goal.at.returns-in-Err-restart-clause-crash g c).After-restart
