use Rattle.std.proofs.Common.{◌≡◌, ◌+◌, ◌∙◌, inl, ℕ, List, length, ap, arith}
use Rattle.tape_blocks.specs.Block.{Portion}
use Rattle.tape_core.specs.Point.{Point}
use Rattle.tape_stage.specs.{Moments.Passes, Staged.KeepsFrames, Staged.Ready, Staged.StagedIn}
use Rattle.tape_stage.proofs.SlotSteps.{IsFilled, filled_done, filled_body, filled_after}
use Rattle.tape_stage.proofs.Keeps.{frames_then, saving_then}
use Rattle.tape_stage.proofs.{Bodies.length-body, Passing.weaken, Passing.follow, Results.on_ok}
use Rattle.tape_stage.proofs.SlotSteps.{opened_done, opened_after, gate_kept, body_kept}
use Rattle.tape_stage.proofs.stage.saving.replace_slot.Goals.{After-write_kept, In_ok-write_kept}
use Rattle.tape_stage.proofs.stage.saving.replace_slot.Given.{Over}
use Rattle.tape_stage.proofs.stage.saving.replace_slot.Goals as goal

size : (g : Over) (c : After-write_kept g) → length c.body_bytes-body.result ≡ 127
size g c = ap length c.body_bytes-body.ensures.text ∙ length-body _ _ c.body_bytes-body.ensures.fit

-- the frames are unchanged after the body was written
frames : (g : Over) (c : After-write_kept g) → g.D.Disk.is_honest c.args.disk.now
    → KeepsFrames (g.D.Disk.seen c.args.disk.now) (g.D.Disk.seen c.write_kept.new.disk)
frames g c honest = frames_then _ _ _ (c.close_gate.ensures.frames honest)
    (body_kept c.args.in_second _ _ _ (size g c) (rw c.gate_place.ensures at
    (c.write_kept.ensures.torn (c.in_ok-close_gate.ensures.synced.honest honest)))).frames

-- a crash until then leaves the current generation
filling : (g : Over) (c : After-write_kept g) → g.D.Disk.is_honest c.args.disk.now → (n : ℕ)
    (point : Point) (parts : List Portion) → Ready c.args.in_second n point parts c.args.is_open
    (g.D.Disk.seen c.args.disk.now) (g.D.Disk.may_leave c.args.disk.now) → Passes g.D.Disk
    c.args.disk.now c.write_kept.new.disk (StagedIn c.args.in_second n point parts)
filling g c honest n point parts ready =
    let first = c.in_ok-close_gate.ensures in
    follow g.D.Disk _ _ _ _ (c.close_gate.ensures.any_moment honest n point parts ready)
    (weaken g.D.Disk _ _ _ _ (λ x after. filled_after _ _ _ _ c.body_bytes-body.result _ _ x
    (size g c) (first.closed honest n point parts ready) (first.synced.durable honest)
    (rw c.gate_place.ensures at after))
    (c.write_kept.ensures.any_moment (first.synced.honest honest)))

-- the slot was filled
filled : (g : Over) (c : In_ok-write_kept g) → g.D.Disk.is_honest c.args.disk.now
    → (n : ℕ) (point : Point) (parts : List Portion) → n + 1 ≡ c.args.generation
    → Ready c.args.in_second n point parts c.args.is_open (g.D.Disk.seen c.args.disk.now)
    (g.D.Disk.may_leave c.args.disk.now)
    → IsFilled c.args.in_second n point c.args.next parts (g.D.Disk.seen c.write_kept.new.disk)
filled g c honest n point parts next_is ready =
    let first = c.in_ok-close_gate.ensures in
    let honest1 = first.synced.honest honest in
    let body = c.body_bytes-body.ensures in
    let size = ap length body.text ∙ length-body _ _ body.fit in
    let holds = rw c.gate_place.ensures at (c.in_ok-write_kept.ensures.written honest1) in
    record {
      closed = filled_done _ _ _ _ _ _ _ size holds (first.closed honest n point parts ready);
      body = rw (← next_is) at (filled_body _ _ _ _ size (omega (
        arith,
        g.met.D.Disk.long_as_seen c.close_gate.new.disk honest1,
        first.long,
        c.requires.room,
      )) holds ∙ body.text);
    }

pub returns-in_err-close_gate-clause-any_moment : goal.returns-in_err-close_gate-clause-any_moment
returns-in_err-close_gate-clause-any_moment g c honest n point parts next_is ready =
    weaken g.D.Disk _ _ _ _ (λ x old. inl old)
    (c.close_gate.ensures.any_moment honest n point parts ready)

pub returns-in_err-write_kept-clause-any_moment : goal.returns-in_err-write_kept-clause-any_moment
returns-in_err-write_kept-clause-any_moment g c honest n point parts next_is ready =
    weaken g.D.Disk _ _ _ _ (λ x old. inl old)
    (filling g (goal.at.returns-in_err-write_kept-clause-any_moment g c).After-write_kept honest n
    point parts ready)

pub returns-in_err-write_kept-clause-frames : goal.returns-in_err-write_kept-clause-frames
returns-in_err-write_kept-clause-frames g c honest =
    frames g (goal.at.returns-in_err-write_kept-clause-frames g c).After-write_kept honest

pub returns-clause-done : goal.returns-clause-done
returns-clause-done g c honest =
    let at = goal.at.returns-clause-done g c in
    on_ok c.write_kept-2.result
    (λ holds n point parts next_is ready.
    rw next_is at (opened_done _ _ _ _ _ _ _ (rw (← next_is) at c.body_bytes-body.ensures.fit)
    (filled g at.In_ok-write_kept honest n point parts next_is ready)
    (rw c.gate_place-2.ensures at holds)))
    (c.write_kept-2.ensures.written (c.in_ok-write_kept.ensures.synced.honest
    (c.in_ok-close_gate.ensures.synced.honest honest)))

pub returns-clause-any_moment : goal.returns-clause-any_moment
returns-clause-any_moment g c honest n point parts next_is ready =
    let at = goal.at.returns-clause-any_moment g c in
    let honest1 = c.in_ok-close_gate.ensures.synced.honest honest in
    follow g.D.Disk _ _ _ _
    (weaken g.D.Disk _ _ _ _ (λ x old. inl old)
    (filling g at.After-write_kept honest n point parts ready))
    (weaken g.D.Disk _ _ _ _
    (λ x after. saving_then _ _ _ _ _ _ _ x (frames g at.After-write_kept honest)
    (opened_after _ _ _ _ _ _ _ x (rw (← next_is) at c.body_bytes-body.ensures.fit)
    (filled g at.In_ok-write_kept honest n point parts next_is ready)
    (c.in_ok-write_kept.ensures.synced.durable honest1) (rw c.gate_place-2.ensures at after)))
    (c.write_kept-2.ensures.any_moment (c.in_ok-write_kept.ensures.synced.honest honest1)))

pub returns-clause-frames : goal.returns-clause-frames
returns-clause-frames g c honest =
    frames_then _ _ _ (frames g (goal.at.returns-clause-frames g c).After-write_kept honest)
    (gate_kept c.args.in_second _ _ (rw c.gate_place-2.ensures at (c.write_kept-2.ensures.torn
    (c.in_ok-write_kept.ensures.synced.honest (c.in_ok-close_gate.ensures.synced.honest
    honest))))).frames
