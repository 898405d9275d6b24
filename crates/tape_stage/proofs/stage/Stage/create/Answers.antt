use Rattle.std.proofs.Common.{◌≡◌, ℕ, List, [], false, length, refl, subst, arith}
use Rattle.tape_stage.specs.{Disk.Holds, Staged.new_slots, Stages.IsStaged}
use Rattle.tape_stage.proofs.{Backs.ready_survives, Backs.ready_returns, Bodies.made_ready}
use Rattle.tape_stage.proofs.Held.{stage_holds}
use Rattle.tape_stage.proofs.stage.Stage.create.{Given.Over, Goals.In-Ok-write_kept-2}
use Rattle.tape_stage.proofs.stage.Stage.create.Goals as goal

made : (g : Over) (c : In-Ok-write_kept-2 g) → g.D.Disk.is_honest c.args.disk
    → IsStaged g.D.Disk c.write_kept-2.new.disk false 1 c.args.point.now false 0 false [] []
made g c honest =
    let s0 = g.D.Disk.seen c.args.disk in
    let s1 = g.D.Disk.seen c.write_kept.new.disk in
    let h1 = c.in-Ok-write_kept.ensures.synced.honest honest in
    let empty : length s0 ≡ 0 =
    omega (arith, g.met.D.Disk.long_as_seen c.args.disk honest, c.requires.empty) in
    let first : Holds s0 0 (new_slots c.args.point.now) s1 = subst (λ (b : List ℕ). Holds s0 0 b s1)
    c.new_slots.ensures.text (c.in-Ok-write_kept.ensures.written honest) in
    let ready = made_ready _ s0 s1 _ _ c.requires.none c.new_slots.ensures.fit empty first
    (c.in-Ok-write_kept-2.ensures.written h1) (c.in-Ok-write_kept-2.ensures.synced.durable h1) in
    record {
      alive = refl;
      ready = ready;
      holds = rw c.requires.none at ready.staged.parts_are;
      behind = omega (arith, c.requires.none);
    }

pub returns-clause-ok : goal.returns-clause-ok
returns-clause-ok g c honest =
    (refl, made g (goal.at.returns-clause-ok g c).In-Ok-write_kept-2 honest)

pub returns-clause-holds : goal.returns-clause-holds
returns-clause-holds g c honest = stage_holds
    (c.in-Ok-write_kept-2.ensures.synced.honest (c.in-Ok-write_kept.ensures.synced.honest honest))
    (made g (goal.at.returns-clause-holds g c).In-Ok-write_kept-2 honest)

pub returns-clause-survives : goal.returns-clause-survives
returns-clause-survives g c honest = ready_survives _ _ _ _ _ _ _
    (made g (goal.at.returns-clause-survives g c).In-Ok-write_kept-2 honest).ready

pub returns-clause-returns : goal.returns-clause-returns
returns-clause-returns g c honest = ready_returns _ _ _ _ _ _ _
    (made g (goal.at.returns-clause-returns g c).In-Ok-write_kept-2 honest).ready
