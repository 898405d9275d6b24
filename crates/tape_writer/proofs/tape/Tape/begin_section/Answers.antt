-- The headers, or a prefix of them.
use Rattle.tape_writer.proofs.Words.{◌++◌, ◌∷◌, [], List, TapeItem, block, mark}
use Rattle.tape_writer.proofs.Fronts.{front_here, front_items, front_behind, front_assoc}
use Rattle.tape_writer.specs.{Tapes.UnderWay, Labels.first_label, Labels.second_label}
use Rattle.tape_label.specs.declared.values.Kind.TheVariants as kinds
use Rattle.tape_writer.proofs.tape.Tape.begin_section.Goals as goal

pub returns-in_err-block-clause-front : goal.returns-in_err-block-clause-front
returns-in_err-block-clause-front g c = λ vs items h. front_items
    (g.T.TapeOut.holds c.block.new.self.out) vs items _ (front_here _ (UnderWay vs items)
    (c.in_err-block.ensures.err (UnderWay vs items) h))

pub returns-in_err-block-2-clause-front : goal.returns-in_err-block-2-clause-front
unfolding first_label
returns-in_err-block-2-clause-front g c = λ vs items h.
    let first : List TapeItem = block (first_label c.args.file.now c.args.sect) ∷ [] in
    let second : List TapeItem = block (second_label c.args.file.now kinds.Hdr2) ∷ mark ∷ [] in
    let one = rw (c.write_head1.ensures.text, c.head_at.ensures) at
    (c.in_ok-block.ensures.ok vs items h) in
    front_behind (g.T.TapeOut.holds c.block-2.new.self.out) vs items first second
    (front_here _ (UnderWay vs (items ++ first)) (c.in_err-block-2.ensures.err _ one))

pub returns-in_err-mark-clause-front : goal.returns-in_err-mark-clause-front
unfolding first_label
returns-in_err-mark-clause-front g c = λ vs items h.
    let first : List TapeItem = block (first_label c.args.file.now c.args.sect) ∷ [] in
    let second : List TapeItem = block (second_label c.args.file.now kinds.Hdr2) ∷ [] in
    let one = rw (c.write_head1.ensures.text, c.head_at.ensures) at
    (c.in_ok-block.ensures.ok vs items h) in
    let two = rw c.second_label.ensures at (c.in_ok-block-2.ensures.ok vs (items ++ first) one) in
    front_assoc (g.T.TapeOut.holds c.mark.new.self.out) vs items first (second ++ mark ∷ [])
    (front_behind (g.T.TapeOut.holds c.mark.new.self.out) vs (items ++ first) second (mark ∷ [])
    (front_here _ (UnderWay vs ((items ++ first) ++ second)) (c.in_err-mark.ensures.err _ two)))
