-- The end of a section, or a prefix of it.
use Rattle.tape_writer.proofs.Words.{◌≡◌, ◌++◌, ◌∷◌, [], List, ◌∙◌, ap, rules, TapeItem, block}
use Rattle.tape_writer.specs.Tapes.{UnderWay}
use Rattle.tape_writer.specs.Labels.{trailer_label, second_label, second_kind}
use Rattle.tape_writer.proofs.Fronts.{front_here, front_items, front_behind, front_thrice}
use Rattle.tape_writer.proofs.Fronts.{took}
use Rattle.tape_writer.proofs.Words.{refl, append_assoc, mark}
use Rattle.tape_writer.proofs.tape.Tape.end_section.Goals.{then-eof, else-eof}
use Rattle.tape_writer.proofs.tape.Tape.end_section.Goals as goal

pub returns-in_err-mark-clause-front : goal.returns-in_err-mark-clause-front
returns-in_err-mark-clause-front g c = λ vs items h. front_items
    (g.T.TapeOut.holds c.mark.new.self.out) vs items _ (front_here _ (UnderWay vs items)
    (c.in_err-mark.ensures.err (UnderWay vs items) h))

pub returns-in_err-block-clause-front : goal.returns-in_err-block-clause-front
returns-in_err-block-clause-front g c = λ vs items h.
    let course = c.args.self.now.course in
    let rest : List TapeItem =
    block (trailer_label c.args.file.now course.sect course.count c.args.eof)
    ∷ block (second_label c.args.file.now (second_kind c.args.eof)) ∷ mark ∷ [] in
    front_behind (g.T.TapeOut.holds c.block.new.self.out) vs items (mark ∷ []) rest
    (front_here _ (UnderWay vs (items ++ mark ∷ []))
    (c.in_err-block.ensures.err _ (c.in_ok-mark.ensures.ok vs items h)))

pub returns-in_err-block-2-clause-front : goal.returns-in_err-block-2-clause-front
unfolding trailer_label
returns-in_err-block-2-clause-front g c = λ vs items h.
    let file = c.args.file.now in
    let course = c.args.self.now.course in
    let text : c.write_trail1.result ≡ trailer_label file course.sect course.count c.args.eof =
    search rules in
    let trailer : List TapeItem =
    block (trailer_label file course.sect course.count c.args.eof) ∷ [] in
    let second : List TapeItem = block (second_label file (second_kind c.args.eof)) ∷ mark ∷ [] in
    let one = c.in_ok-mark.ensures.ok vs items h in
    let two = rw text at (c.in_ok-block.ensures.ok vs (items ++ mark ∷ []) one) in
    front_thrice (g.T.TapeOut.holds c.block-2.new.self.out) vs items (mark ∷ []) trailer second
    (front_items _ vs ((items ++ mark ∷ []) ++ trailer) second
    (front_here _ (UnderWay vs ((items ++ mark ∷ []) ++ trailer))
    (c.in_err-block-2.ensures.err _ two)))

kind_is : (g : _) (c : goal.After-mark-2 g) → c.if-eof.second_label ≡ second_kind c.args.eof
kind_is g c = elim c.if-eof.branch [
  | then-eof w ↦ rw (w.second_label-is, w.if-eof.true) refl
  | else-eof w ↦ rw (w.second_label-is, w.if-eof.false) refl
]

-- the items before the last mark
abbrev labels : (g : _) (c : goal.After-mark-2 g) → List TapeItem → List TapeItem
labels g c items = let course = c.args.self.now.course in
    ((items ++ mark ∷ [])
    ++ block (trailer_label c.args.file.now course.sect course.count c.args.eof) ∷ [])
    ++ block (second_label c.args.file.now (second_kind c.args.eof)) ∷ []

written : (g : _) (c : goal.After-mark-2 g) (vs : List (List TapeItem)) (items : List TapeItem)
    → g.T.TapeOut.holds c.args.self.now.out (UnderWay vs items)
    → g.T.TapeOut.holds c.block-2.new.self.out (UnderWay vs (labels g c items))
unfolding trailer_label
written g c vs items h =
    let file = c.args.file.now in
    let course = c.args.self.now.course in
    let text : c.write_trail1.result ≡ trailer_label file course.sect course.count c.args.eof =
    search rules in
    let text2 = c.second_label.ensures ∙ ap (second_label file) (kind_is g c) in
    rw text2 at (c.in_ok-block-2.ensures.ok vs _ (rw text at
    (c.in_ok-block.ensures.ok vs (items ++ mark ∷ []) (c.in_ok-mark.ensures.ok vs items h))))

pub returns-clause-ok : goal.returns-clause-ok
returns-clause-ok g c = λ vs items h. rw (append_assoc, append_assoc, append_assoc) at
    (c.mark-2.ensures.ok vs (labels g c items) (written g c vs items h))

pub returns-clause-front : goal.returns-clause-front
returns-clause-front g c = λ vs items h.
    let H = g.T.TapeOut.holds c.mark-2.new.self.out in
    rw (append_assoc, append_assoc, append_assoc) at (took
    (g.T.TapeOut.holds c.block-2.new.self.out) H (mark ∷ []) _ c.mark-2.ensures.ok
    c.mark-2.ensures.err vs (labels g c items) (written g c vs items h))
