use Rattle.tape_writer.proofs.Words.{◌≡◌, ◌+◌, [], arith, rules, List, inl, inr, refl, ap}
use Rattle.tape_writer.proofs.set.SetWriter.begin_file.Goals.{After-begin_section, else-self-eq0}
use Rattle.tape_writer.proofs.set.SetWriter.begin_file.Goals.{then-self-eq0+in_ok-begin_volume}
use Rattle.tape_writer.specs.{declared.course.Course.Course, Told.Told}
use Rattle.tape_writer.specs.{Inside.IsBetween, Inside.IsWaiting, Tapes.Ended, Tapes.WasAsked}
use Rattle.tape_writer.specs.{Front.HoldsFront, Labels.header_items}
use Rattle.tape_writer.specs.Lasting.{Lasts, LastsFirst, TapeLasts}
use Rattle.tape_writer.proofs.Fronts.{behind_writing, err_any, front_items}
use Rattle.tape_writer.proofs.Last.{asked_of, lasting_then, lasting_self, first_lasts, lasts_then}
use Rattle.tape_writer.proofs.{Calls.begin_told, Left.left_begin, Left.is_begun}
use Rattle.tape_writer.proofs.{Ends.between_first, Ends.filing_begun, Held.got}
use Rattle.tape_writer.proofs.Drafts.{begun_course}
use Rattle.tape_writer.proofs.set.SetWriter.begin_file.Goals as goal

pub returns-in_default-clause-lasting : goal.returns-in_default-clause-lasting
returns-in_default-clause-lasting g c = rw (← c.self.view_is) (lasting_self _ _ _)

pub returns-then-is_err-clause-lasting : goal.returns-then-is_err-clause-lasting
returns-then-is_err-clause-lasting g c = rw (← c.self.view_is) (lasting_self _ _ _)

-- ---- a prefix of the items

pub returns-in_default-clause-front : goal.returns-in_default-clause-front
returns-in_default-clause-front g c =
    rw (← c.self.view_is) (λ told k ends.
    inl (behind_writing (g.T.TapeOut.holds c.self.inside.tape.out) _ told c.in-Between.is k))

pub returns-then-is_err-clause-front : goal.returns-then-is_err-clause-front
returns-then-is_err-clause-front g c =
    rw (← c.self.view_is) (λ told k ends.
    inl (behind_writing (g.T.TapeOut.holds c.self.inside.tape.out) _ told c.in-Between.is k))

pub returns-in_err-begin_volume-clause-front : goal.returns-in_err-begin_volume-clause-front
returns-in_err-begin_volume-clause-front g c =
    let old = c.self.inside.tape.course in
    let first : Course = record old { volume = old.volume + 1; used = 88 } in
    let H = g.T.TapeOut.holds c.begin_volume.new.self.out in
    rw (← c.self.view_is) (λ told k. err_any c.from_residual.result _ (λ f ends. inr (left_begin
    (g.T.TapeOut.holds c.self.inside.tape.out) H _ c.next_file-file.result c.in-Ok.packer told
    c.args.head c.args.shape c.in-Between.is (search rules)
    (λ s f x. (
      begun_course first,
      filing_begun {H = HoldsFront H} {course = first} (search rules) s f (search rules)
          (λ vs items h. front_items H vs items (header_items c.next_file-file.result 1) h)
          (between_first old told (search rules) (search rules) (search rules) c.index.ensures
          c.self.invariant.wide refl c.begin_volume.ensures.front x),
    )) k)))

-- a volume is current
under_way : (g : _) (c : After-begin_section g) (told : List Told)
    → IsWaiting (g.T.TapeOut.holds c.self.inside.tape.out) c.self.inside.volumes.items
    c.self.inside.capacity c.self.inside.set_id c.self.inside.tape.course told
    → IsBetween (g.T.TapeOut.holds c.if-self-eq0.self-inside.tape.out) c.self.inside.volumes.items
    c.self.inside.capacity c.self.inside.set_id c.if-self-eq0.self-inside.tape.course told
under_way g c told k =
    let old = c.self.inside.tape.course in
    elim c.if-self-eq0.branch [
      | then-self-eq0+in_ok-begin_volume w ↦ rw w.self-inside-is (between_first old told
          (search rules) (search rules) (search rules) w.index.ensures c.self.invariant.wide
          w.in_ok-begin_volume.ensures.course w.in_ok-begin_volume.ensures.ok k)
      | else-self-eq0 w ↦ rw w.self-inside-is
          (is_begun (g.T.TapeOut.holds c.self.inside.tape.out) _ _ _ old told (search rules) k).0
    ]

-- the set is unchanged
same_set : (g : _) (c : After-begin_section g)
    → (c.if-self-eq0.self-inside.volumes.items ≡ c.self.inside.volumes.items)
    × (c.if-self-eq0.self-inside.capacity ≡ c.self.inside.capacity)
    × (c.if-self-eq0.self-inside.set_id ≡ c.self.inside.set_id)
same_set g c = search rules

pub returns-in_err-begin_section-clause-front : goal.returns-in_err-begin_section-clause-front
returns-in_err-begin_section-clause-front g c =
    let here = (goal.at.returns-in_err-begin_section-clause-front g c).After-begin_section in
    let (volumes, capacity, set_id) = same_set g here in
    rw (← c.self.view_is, volumes, capacity, set_id) (λ told k.
    err_any c.from_residual-in_err-begin_section.result _ (λ f ends. inr (left_begin
    (g.T.TapeOut.holds c.self.inside.tape.out) (g.T.TapeOut.holds c.begin_section.new.self.out) _
    c.next_file-file.result c.in-Ok.packer told c.args.head c.args.shape c.in-Between.is
    (search rules) (λ s f x. (
      begun_course c.if-self-eq0.self-inside.tape.course,
      filing_begun (search rules) s f (search rules) c.begin_section.ensures.front
          (under_way g here told x),
    )) k)))

-- ---- the file has begun

pub returns-clause-told : goal.returns-clause-told
returns-clause-told g c =
    let here = (goal.at.returns-clause-told g c).After-begin_section in
    let (volumes, capacity, set_id) = same_set g here in
    rw (← c.self.view_is, volumes, capacity, set_id) (λ told k.
    begin_told (g.T.TapeOut.holds c.self.inside.tape.out)
    (g.T.TapeOut.holds c.begin_section.new.self.out) _ c.begin_section.new.self.out
    c.if-self-eq0.self-inside.files.items c.next_file-file.result
    c.begin_section.new.self.course c.in-Ok.packer told c.args.head c.args.shape c.in-Between.is
    (search rules) (search rules)
    (λ s f x. rw c.in_ok-begin_section.ensures.course (filing_begun (search rules) s f
    (search rules) c.in_ok-begin_section.ensures.ok (under_way g here told x))) k)

-- the size of the volume is counted
volume_lasts : (g : _) (c : After-begin_section g) → c.self.inside.tape.course.volume ≡ 0
    → g.T.TapeOut.holds c.self.inside.tape.out (Ended []) → c.self.inside.tape.course.used ≡ 0
    → LastsFirst (g.T.TapeOut.holds c.begin_section.new.self.out)
    c.begin_section.new.self.course.used
volume_lasts g c zero h none =
    let now : Lasts (g.T.TapeOut.holds c.if-self-eq0.self-inside.tape.out)
    c.if-self-eq0.self-inside.tape.course.used [] = elim c.if-self-eq0.branch [
      | then-self-eq0+in_ok-begin_volume w ↦
          let used = ap (λ (z : Course). z.used) w.in_ok-begin_volume.ensures.course in
          rw w.self-inside-is (first_lasts _ _ (w.begin_volume.ensures.first h none)
          (λ e. omega (arith, e, used)))
      | else-self-eq0 w ↦ absurd (w.if-self-eq0.false zero)
    ] in
    inr (lasts_then _ _ _ _ _ _ now c.begin_section.ensures.lasting)

pub returns-in_err-begin_section-clause-first : goal.returns-in_err-begin_section-clause-first
returns-in_err-begin_section-clause-first g c =
    let here = (goal.at.returns-in_err-begin_section-clause-first g c).After-begin_section in
    rw (← c.self.view_is) (volume_lasts g here)

pub returns-clause-first : goal.returns-clause-first
returns-clause-first g c =
    rw (← c.self.view_is) (volume_lasts g (goal.at.returns-clause-first g c).After-begin_section)

section_lasting : (g : _) (c : After-begin_section g)
    → TapeLasts g.T.TapeOut c.self.inside.tape c.begin_section.new.self
section_lasting g c =
    let volume : TapeLasts g.T.TapeOut c.self.inside.tape c.if-self-eq0.self-inside.tape =
    elim c.if-self-eq0.branch [
      | then-self-eq0+in_ok-begin_volume w ↦ rw w.self-inside-is w.begin_volume.ensures.lasting
      | else-self-eq0 w ↦ rw w.self-inside-is (lasting_self _ _ _)
    ] in
    lasting_then _ _ _ _ _ _ _ _ _ volume c.begin_section.ensures.lasting

pub returns-in_err-begin_section-clause-lasting : goal.returns-in_err-begin_section-clause-lasting
returns-in_err-begin_section-clause-lasting g c =
    let here = (goal.at.returns-in_err-begin_section-clause-lasting g c).After-begin_section in
    rw (← c.self.view_is) (section_lasting g here)

pub returns-clause-lasting : goal.returns-clause-lasting
returns-clause-lasting g c =
    let here = (goal.at.returns-clause-lasting g c).After-begin_section in
    rw (← c.self.view_is) (section_lasting g here)

pub returns-clause-asked : goal.returns-clause-asked
returns-clause-asked g c =
    let here = (goal.at.returns-clause-asked g c).After-begin_section in
    let asked : WasAsked (g.T.TapeOut.asked c.self.inside.tape.out) c.self.inside.volumes.items
    c.self.inside.tape.course.volume
    → WasAsked (g.T.TapeOut.asked c.if-self-eq0.self-inside.tape.out) c.self.inside.volumes.items
    c.if-self-eq0.self-inside.tape.course.volume = elim c.if-self-eq0.branch [
      | then-self-eq0+in_ok-begin_volume w ↦
          let there = got c.self.inside.volumes.items 0 0 _ refl (search rules) w.index.ensures in
          let volume = ap (λ (z : Course). z.volume) w.in_ok-begin_volume.ensures.course in
          rw w.self-inside-is (search rules)
      | else-self-eq0 w ↦ rw w.self-inside-is (λ old. old)
    ] in
    rw (← c.self.view_is, (same_set g here).0)
    (λ old. asked_of _ _ _ _ _ _ refl (search rules) (asked old))
