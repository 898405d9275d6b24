-- The change of a volume inside a file, or a prefix of its items.
use Rattle.tape_writer.proofs.Words.{◌≡◌, ◌++◌, ◌∷◌, [], ◌+◌, List, false, rules, arith, subst, ap}
use Rattle.tape_writer.proofs.Words.{◌∙◌, TapeItem, block, mark, slice_get, Some}
use Rattle.tape_writer.proofs.{Held.place_here, Held.place_next, Held.got, Last.lasting_self}
use Rattle.tape_writer.proofs.Fronts.{err_any, front_here, front_items, front_changed}
use Rattle.tape_writer.specs.Labels.{volume_label, header_items, trailer_items}
use Rattle.tape_writer.specs.{Tapes.UnderWay, Front.HoldsFront, Draft.changed_course}
use Rattle.tape_writer.specs.declared.course.Course.{Course}
use Rattle.tape_writer.proofs.tape.Tape.make_room.Goals as goal

pub returns-then-from-clause-lasting : goal.returns-then-from-clause-lasting
returns-then-from-clause-lasting g c = lasting_self _ _ _

pub returns-in_default-clause-lasting : goal.returns-in_default-clause-lasting
returns-in_default-clause-lasting g c = lasting_self _ _ _

pub returns-then-from-clause-place : goal.returns-then-from-clause-place
returns-then-from-clause-place g c = λ set_id d o next refused. place_here next o

pub returns-clause-place : goal.returns-clause-place
returns-clause-place g c = λ set_id d o next refused.
    let old = c.args.self.now.course in
    let ends : List TapeItem = trailer_items c.args.file.now old.sect old.count false in
    let new : c.begin_section.new.self.course ≡ changed_course old = search rules in
    rw new (place_next next c.in-Some.volume.now c.requires.wide c.requires.volumes
    (omega arith) (omega arith) (refused (omega arith)) (got _ _ _ _ (search rules)
    c.in-Some.ensures.lookup.3.0 c.in-Some.ensures.lookup.1) (λ vs items h.
    let marked = c.in_ok-mark.ensures.ok vs (items ++ ends)
    (c.in_ok-end_section.ensures.ok vs items h) in
    let begun = c.in_ok-begin_volume.ensures.ok (UnderWay vs (items ++ ends ++ mark ∷ [])) marked in
    let labelled = block (volume_label c.in-Some.volume.now) ∷ [] in
    let number = ap (λ k. k.sect) c.in_ok-begin_volume.ensures.course
    ∙ (ap (λ k. k.sect) c.in_ok-mark.ensures.course
    ∙ ap (λ k. k.sect) c.in_ok-end_section.ensures.course) in
    subst (λ n. g.T.TapeOut.holds c.begin_section.new.self.out
    (UnderWay (vs ++ (items ++ ends ++ mark ∷ []) ∷ [])
    (labelled ++ header_items c.args.file.now (n + 1)))) number
    (c.in_ok-begin_section.ensures.ok _ labelled begun)) o)

pub returns-in_err-end_section-clause-front : goal.returns-in_err-end_section-clause-front
returns-in_err-end_section-clause-front g c = λ set_id d o next refused.
    err_any c.from_residual.result _ (λ f not.
    let old = c.args.self.now.course in
    let ends : List TapeItem = trailer_items c.args.file.now old.sect old.count false in
    let H = g.T.TapeOut.holds c.end_section.new.self.out in
    place_next next c.in-Some.volume.now c.requires.wide c.requires.volumes
    (omega arith) (omega arith) (refused (omega arith)) (got _ _ _ _ (search rules)
    c.in-Some.ensures.lookup.3.0 c.in-Some.ensures.lookup.1) (λ vs items h.
    front_changed H (UnderWay vs (items ++ ends ++ mark ∷ [])) _
    (front_items H vs (items ++ ends) (mark ∷ []) (c.end_section.ensures.front vs items h))) o)

pub returns-in_err-mark-clause-front : goal.returns-in_err-mark-clause-front
returns-in_err-mark-clause-front g c = λ set_id d o next refused.
    err_any c.from_residual-in_err-mark.result _ (λ f not.
    let old = c.args.self.now.course in
    let ends : List TapeItem = trailer_items c.args.file.now old.sect old.count false in
    let H = g.T.TapeOut.holds c.mark.new.self.out in
    place_next next c.in-Some.volume.now c.requires.wide c.requires.volumes
    (omega arith) (omega arith) (refused (omega arith)) (got _ _ _ _ (search rules)
    c.in-Some.ensures.lookup.3.0 c.in-Some.ensures.lookup.1) (λ vs items h.
    front_changed H (UnderWay vs (items ++ ends ++ mark ∷ [])) _
    (front_items H vs (items ++ ends) (mark ∷ []) (front_here H (UnderWay vs (items ++ ends))
    (c.in_err-mark.ensures.err _ (c.in_ok-end_section.ensures.ok vs items h))))) o)

pub returns-in_err-begin_volume-clause-front : goal.returns-in_err-begin_volume-clause-front
returns-in_err-begin_volume-clause-front g c = λ set_id d o next refused.
    err_any c.from_residual-in_err-begin_volume.result _ (λ f not.
    let old = c.args.self.now.course in
    let ends : List TapeItem = trailer_items c.args.file.now old.sect old.count false in
    place_next next c.in-Some.volume.now c.requires.wide c.requires.volumes
    (omega arith) (omega arith) (refused (omega arith)) (got _ _ _ _ (search rules)
    c.in-Some.ensures.lookup.3.0 c.in-Some.ensures.lookup.1) (λ vs items h.
    let marked = c.in_ok-mark.ensures.ok vs (items ++ ends)
    (c.in_ok-end_section.ensures.ok vs items h) in
    front_items (g.T.TapeOut.holds c.begin_volume.new.self.out) (vs ++ (items ++ ends ++ mark ∷ [])
    ∷ []) (block (volume_label c.in-Some.volume.now) ∷ []) (header_items c.args.file.now
    (old.sect + 1))
    (c.begin_volume.ensures.front (UnderWay vs (items ++ ends ++ mark ∷ [])) marked)) o)

pub returns-in_err-begin_section-clause-front : goal.returns-in_err-begin_section-clause-front
returns-in_err-begin_section-clause-front g c = λ set_id d o next refused.
    err_any c.from_residual-in_err-begin_section.result _ (λ f not.
    let old = c.args.self.now.course in
    let ends : List TapeItem = trailer_items c.args.file.now old.sect old.count false in
    place_next next c.in-Some.volume.now c.requires.wide c.requires.volumes
    (omega arith) (omega arith) (refused (omega arith)) (got _ _ _ _ (search rules)
    c.in-Some.ensures.lookup.3.0 c.in-Some.ensures.lookup.1) (λ vs items h.
    let marked = c.in_ok-mark.ensures.ok vs (items ++ ends)
    (c.in_ok-end_section.ensures.ok vs items h) in
    let begun = c.in_ok-begin_volume.ensures.ok (UnderWay vs (items ++ ends ++ mark ∷ [])) marked in
    let labelled = block (volume_label c.in-Some.volume.now) ∷ [] in
    let number = ap (λ k. k.sect) c.in_ok-begin_volume.ensures.course
    ∙ (ap (λ k. k.sect) c.in_ok-mark.ensures.course
    ∙ ap (λ k. k.sect) c.in_ok-end_section.ensures.course) in
    subst (λ n. HoldsFront (g.T.TapeOut.holds c.begin_section.new.self.out)
    (UnderWay (vs ++ (items ++ ends ++ mark ∷ []) ∷ [])
    (labelled ++ header_items c.args.file.now (n + 1)))) number
    (c.begin_section.ensures.front _ labelled begun)) o)

pub returns-clause-asked : goal.returns-clause-asked
returns-clause-asked g c = λ w k v number there.
    let new : c.begin_section.new.self.course ≡ changed_course c.args.self.now.course =
    search rules in
    let at : c.args.self.now.course.volume ≡ k =
    omega (arith, number, ap (λ (z : Course). z.volume) new) in
    let found : slice_get c.args.volumes.now c.args.self.now.course.volume
    ≡ Some c.in-Some.volume.now = got _ _ _ _ (search rules) c.in-Some.ensures.lookup.3.0
    c.in-Some.ensures.lookup.1 in
    let same : c.in-Some.volume.now ≡ v = (let both = ap (slice_get c.args.volumes.now) at in cc) in
    rw same at (c.begin_section.ensures.asked _ c.in_ok-begin_volume.ensures.asked)
