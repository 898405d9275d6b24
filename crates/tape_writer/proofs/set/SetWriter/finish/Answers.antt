use Rattle.tape_writer.proofs.Words.{rules, ◌∷◌, [], mark, sym, ap, ◌∙◌}
use Rattle.tape_writer.specs.{Tapes.UnderWay, declared.course.Course.Course}
use Rattle.tape_writer.proofs.Fronts.{err_any, front_closed, front_here, front_items, waits}
use Rattle.tape_writer.proofs.{Ends.end_written, Left.is_begun}
use Rattle.tape_writer.proofs.set.SetWriter.finish.Goals as goal

pub returns-in_err-mark-clause-front : goal.returns-in_err-mark-clause-front
returns-in_err-mark-clause-front g c =
    rw (← c.self.view_is) (λ told k. err_any c.from_residual.result _ (λ f ends.
    let H = g.T.TapeOut.holds c.mark.new.self.out in
    end_written c.self.invariant.wide (λ vs items h. front_items H vs items (mark ∷ [])
    (front_here H (UnderWay vs items) (c.in_err-mark.ensures.err (UnderWay vs items) h)))
    (λ t h. front_closed H t h)
    (is_begun _ _ _ _ _ told (search rules) (waits _ _ told (search rules) k))))

pub returns-in-Err-clause-front : goal.returns-in-Err-clause-front
returns-in-Err-clause-front g c =
    rw (← c.self.view_is) (λ told k ends.
    let H = g.T.TapeOut.holds c.close.new.self in
    end_written c.self.invariant.wide c.in_ok-mark.ensures.ok
    (λ t h. front_closed H t (front_here H t (c.in-Err.ensures.err t h)))
    (is_begun _ _ _ _ _ told (search rules) (waits _ _ told (search rules) k)))

pub returns-clause-told : goal.returns-clause-told
returns-clause-told g c =
    rw (← c.self.view_is) (λ told k. record {
      kept = k.kept;
      stands = end_written c.self.invariant.wide c.in_ok-mark.ensures.ok c.in_default.ensures.ok
          (is_begun _ _ _ _ _ told (search rules) (waits _ _ told (search rules) k));
    })

pub returns-clause-asked : goal.returns-clause-asked
returns-clause-asked g c =
    rw (← c.self.view_is) (λ w k v number there. c.in_default.ensures.asked v
    (c.mark.ensures.asked v (w k v
    (sym (ap (λ (z : Course). z.volume) c.in_ok-mark.ensures.course) ∙ number) there)))
