use Rattle.tape_stage.proofs.SlotSteps.{ready_each, ready_after, closed_done, gate_kept}
use Rattle.tape_stage.proofs.{Passing.weaken, Passing.stands, Results.on_ok}
use Rattle.tape_stage.proofs.stage.saving.close_gate.Goals as goal

pub returns-then-is_open-clause-closed : goal.returns-then-is_open-clause-closed
returns-then-is_open-clause-closed g c honest = on_ok c.write_kept.result
    (λ holds g' point parts ready. closed_done _ _ _ _ _ _ _ (rw c.if-is_open.true at ready)
    (rw c.gate_place.ensures at holds)) (c.write_kept.ensures.written honest)

pub returns-then-is_open-clause-frames : goal.returns-then-is_open-clause-frames
returns-then-is_open-clause-frames g c honest =
    (gate_kept c.args.in_second _ _ (rw c.gate_place.ensures at
    (c.write_kept.ensures.torn honest))).frames

pub returns-then-is_open-clause-any_moment : goal.returns-then-is_open-clause-any_moment
returns-then-is_open-clause-any_moment g c honest g' point parts ready =
    weaken g.D.Disk _ _ _ _ (λ x after. ready_after _ _ _ _ _ _ x (rw c.if-is_open.true at ready)
    (rw c.gate_place.ensures at after)) (c.write_kept.ensures.any_moment honest)

pub returns-clause-any_moment : goal.returns-clause-any_moment
returns-clause-any_moment g c honest g' point parts ready =
    stands g.D.Disk _ _ _ (c.sync.ensures.time honest)
    (λ x left. (ready_each _ _ _ _ _ _ _ x ready (c.sync.ensures.crash honest x left)).0)
