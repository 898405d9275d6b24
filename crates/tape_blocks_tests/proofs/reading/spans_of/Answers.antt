use Rattle.std.proofs.Common.{◌≡◌, sym, ap, ◌∙◌, map, ◌++◌}
use Rattle.std.proofs.lemmas.List.{append-nil}
use Rattle.tape_blocks.specs.Block.{Portion}
use Rattle.tape_blocks.specs.Parts.{view}
use Rattle.tape_blocks.specs.PartsLeft.{parts_left}
use Rattle.tape_blocks.proofs.YieldLaws.{yielded_parts}
use Rattle.tape_blocks_tests.proofs.BackLaws.{spans_same}
use Rattle.tape_blocks_tests.proofs.reading.spans_of.Goals as goal

pub returns : goal.returns
returns c = λ parts h.
    let left = c.new-part-items.ensures parts h in
    let come = yielded_parts c.into_iter-part-iterator.result c.loop-part.yielded
    c.loop-part.part-iterator c.loop-part.yielded_by in
    let i = c.into_iter-part-iterator.ensures.into_iter_gives in
    let end = c.in-None.ensures.steps in
    let all : map view c.loop-part.yielded ≡ parts = sym (append-nil (map view c.loop-part.yielded))
    ∙ ap (λ ys. map view c.loop-part.yielded ++ ys) (sym end.0) ∙ sym come
    ∙ ap parts_left i ∙ left in
    c.loop-part.invariant ∙ spans_same c.loop-part.yielded ∙ ap (map (λ (p : Portion). p.span)) all
