-- The last block and the end of the file, in the current section or after a change of the volume.
use Rattle.tape_writer.proofs.Words.{◌≤◌, least_capacity, [], arith, rules, sym, ap, ◌∙◌, inl, inr}
use Rattle.tape_writer.proofs.{Words.err_from_is_err_and, Words.lt-leb, Packed.flat_flushed}
use Rattle.tape_writer.proofs.{Last.asked_of, Last.lasting_self, Stuck.stuck_last, Stuck.stuck_end}
use Rattle.tape_writer.proofs.{Left.left_end, Left.last_left, Calls.end_told, Calls.stuck_told}
use Rattle.tape_writer.proofs.Fronts.{err_any, is_out, flat_left, front_here, front_items}
use Rattle.tape_writer.proofs.Ends.{file_ended}
use Rattle.tape_writer.specs.{Draft.changed_course}
use Rattle.tape_writer.specs.{declared.course.Course.Course}
use Rattle.tape_writer.proofs.Drafts.{ended_course}
use Rattle.tape_writer.proofs.set.SetWriter.end_file.Goals as goal

pub returns-in-Between-clause-lasting : goal.returns-in-Between-clause-lasting
returns-in-Between-clause-lasting g c = rw (← c.self.view_is) (lasting_self _ _ _)

pub returns-in-Failed-clause-lasting : goal.returns-in-Failed-clause-lasting
returns-in-Failed-clause-lasting g c = rw (← c.self.view_is) (lasting_self _ _ _)

pub returns-in-Finished-clause-lasting : goal.returns-in-Finished-clause-lasting
returns-in-Finished-clause-lasting g c = rw (← c.self.view_is) (lasting_self _ _ _)

pub returns-clause-told : goal.returns-clause-told
returns-clause-told g c =
    rw (← c.self.view_is) (λ told k. end_told (g.T.TapeOut.holds c.self.inside.tape.out)
    (g.T.TapeOut.holds c.end_section.new.self.out) _ _ _ _ _ told c.in-Filing.is (search rules)
    (λ past records x.
    let flat = flat_flushed g.T.TapeOut.holds _ _ c.self.inside.set_id _ _ _ _ x.files records
    c.flush-flushed.ensures.none c.in_ok-flushed.ensures.flushed x.inside in
    rw c.in_ok-end_section.ensures.course (file_ended past (search rules) (omega arith)
    (search rules) (omega (arith, c.in_ok-make_room.ensures.room)) x.filed flat
    c.in_ok-end_section.ensures.ok (c.in_ok-make_room.ensures.place c.self.inside.set_id
    flat.draft flat.is_open [] (λ due. lt-leb _ _ (omega (arith, due)))))) k)

-- ---- no volume is left

pub returns-in_err-flushed-clause-stuck : goal.returns-in_err-flushed-clause-stuck
returns-in_err-flushed-clause-stuck g c =
    let p = err_from_is_err_and c.from_residual.result c.from_residual.ensures.1 in
    rw (← c.self.view_is, p.1, p.2) (λ told k e.
    stuck_told (g.T.TapeOut.holds c.self.inside.tape.out)
    (g.T.TapeOut.holds c.flush-flushed.new.tape.out) _ _ c.as_slice-volumes.result.now _ _ told told
    (λ rs. rs) c.in-Filing.is (search rules) (λ past records is. is) (λ fs records x.
    let q = c.in_err-flushed.ensures.stuck e in
    rw q.0 (stuck_last _ x q.1)) k)

pub returns-in_err-make_room-clause-stuck : goal.returns-in_err-make_room-clause-stuck
returns-in_err-make_room-clause-stuck g c =
    let p = err_from_is_err_and c.from_residual-in_err-make_room.result
    c.from_residual-in_err-make_room.ensures.1 in
    rw (← c.self.view_is, p.1, p.2) (λ told k e.
    stuck_told (g.T.TapeOut.holds c.self.inside.tape.out)
    (g.T.TapeOut.holds c.make_room.new.self.out) _ _ _ _ _ told told (λ rs. rs) c.in-Filing.is
    (search rules) (λ past records is. is) (λ fs records x.
    let q = c.in_err-make_room.ensures.stuck e in
    let flat = flat_flushed g.T.TapeOut.holds _ _ c.self.inside.set_id _ _ _ _ fs records
    c.flush-flushed.ensures.none c.in_ok-flushed.ensures.flushed x in
    rw q.0 (stuck_end flat q.1 (omega (arith, q.2)))) k)

pub returns-in_err-end_section-clause-stuck : goal.returns-in_err-end_section-clause-stuck
returns-in_err-end_section-clause-stuck g c =
    let p = err_from_is_err_and c.from_residual-in_err-end_section.result
    c.from_residual-in_err-end_section.ensures.1 in
    rw (p.1, p.2) (λ told k e. absurd (c.in_err-end_section.ensures.out.1 e))

-- ---- a prefix of the items

pub returns-in_err-flushed-clause-front : goal.returns-in_err-flushed-clause-front
returns-in_err-flushed-clause-front g c =
    rw (← c.self.view_is) (λ told k. err_any c.from_residual.result _ (λ f ends.
    left_end (g.T.TapeOut.holds c.self.inside.tape.out)
    (g.T.TapeOut.holds c.flush-flushed.new.tape.out) _ _ _ told c.in-Filing.is (search rules)
    (λ past records x. inl (last_left _ (λ e t h. rw (c.in_err-flushed.ensures.stuck e).0 h) _
    (λ d o not. c.in_err-flushed.ensures.front (λ e. let none = (c.in_err-flushed.ensures.none e).0
    in cc) c.self.inside.set_id d o not) x.inside)) k))

pub returns-in_err-make_room-clause-front : goal.returns-in_err-make_room-clause-front
returns-in_err-make_room-clause-front g c =
    rw (← c.self.view_is) (λ told k. err_any c.from_residual-in_err-make_room.result _ (λ f ends.
    let K = g.T.TapeOut.holds c.make_room.new.self.out in
    left_end (g.T.TapeOut.holds c.self.inside.tape.out) K _ _ _ told c.in-Filing.is (search rules)
    (λ past records x.
    let flat = flat_flushed g.T.TapeOut.holds _ _ c.self.inside.set_id _ _ _ _ x.files records
    c.flush-flushed.ensures.none c.in_ok-flushed.ensures.flushed x.inside in
    let least : least_capacity c.in-Filing.open.file.shape ≤ c.self.inside.capacity =
    search rules in
    elim (is_out c.in_err-make_room.field-0.0) [
      | inl o ↦ inl (
        c.flush-flushed.new.tape.course,
        inr (inr (flat_left (λ t h. front_here K t (rw (c.in_err-make_room.ensures.stuck o).0 h))
            flat)),
      )
      | inr not ↦ inr (
        ended_course (changed_course c.flush-flushed.new.tape.course),
        file_ended past (search rules) (omega arith) least (omega (arith, least)) x.filed flat
            (λ vs items h. front_items K vs items _ h)
            (c.in_err-make_room.ensures.front c.self.inside.set_id flat.draft flat.is_open []
            (λ due. lt-leb _ _ (omega (arith, due))) not),
      )
    ]) k))

pub returns-in_err-end_section-clause-front : goal.returns-in_err-end_section-clause-front
returns-in_err-end_section-clause-front g c =
    rw (← c.self.view_is) (λ told k. err_any c.from_residual-in_err-end_section.result _ (λ f ends.
    left_end (g.T.TapeOut.holds c.self.inside.tape.out)
    (g.T.TapeOut.holds c.end_section.new.self.out) _ _ _ told c.in-Filing.is (search rules)
    (λ past records x.
    let flat = flat_flushed g.T.TapeOut.holds _ _ c.self.inside.set_id _ _ _ _ x.files records
    c.flush-flushed.ensures.none c.in_ok-flushed.ensures.flushed x.inside in
    inr (
      ended_course c.make_room.new.self.course,
      file_ended past (search rules) (omega arith) (search rules)
          (omega (arith, c.in_ok-make_room.ensures.room)) x.filed flat
          c.end_section.ensures.front (c.in_ok-make_room.ensures.place c.self.inside.set_id
          flat.draft flat.is_open [] (λ due. lt-leb _ _ (omega (arith, due)))),
    )) k))

pub returns-clause-asked : goal.returns-clause-asked
returns-clause-asked g c =
    rw (← c.self.view_is) (λ w. asked_of _ _ _ _ _ _ (search rules) (λ first k v number there.
    c.end_section.ensures.asked v (c.in_ok-make_room.ensures.asked
    (c.in_ok-flushed.ensures.asked first) k v
    (sym (ap (λ (z : Course). z.volume) c.in_ok-end_section.ensures.course) ∙ number) there)) w)
