use Rattle.std.proofs.Common.{◌≡◌, ◌++◌, List, map, take, false, ap, sym, subst, refl, ◌∙◌}
use Rattle.std.proofs.lemmas.List.{append-nil}
use Rattle.tape_blocks.specs.Block.{Portion, Holds}
use Rattle.tape_blocks.specs.Parts.{view}
use Rattle.tape_blocks.specs.PartsLeft.{parts_left}
use Rattle.tape_blocks_tests.specs.Records.{contents}
use Rattle.tape_blocks.specs.Spans.{leaves}
use Rattle.tape_blocks.specs.Tight.{parts_of_all}
use Rattle.tape_blocks_tests.proofs.BackLaws.{here_at, in_contents, joined_as, joined_ends}
use Rattle.tape_blocks_tests.proofs.BackLaws.{joined_goes_on, text_at, parts_push, contents_push}
use Rattle.tape_blocks.proofs.TightLaws.{parts_more}
use Rattle.tape_blocks.proofs.YieldLaws.{yielded_parts}
use Rattle.tape_blocks_tests.proofs.reading.records_in_blocks.Goals as goal

pub new-part-items-requires : goal.new-part-items-requires
new-part-items-requires c =
    let shape = c.args.shape.now in
    let held = c.requires.1 in
    let here = here_at shape held.0 (contents c.args.blocks.now) c.loop-block.block-index false
    false (in_contents c.args.blocks.now c.loop-block.block-index c.loop-block-test.true) held.1
    held.2 held.3 in
    let same = here.same ∙ text_at c.args.blocks.now c.loop-block.block-index c.block-item.result
    c.loop-block-test.true c.block-item.is ∙ sym c.deref.ensures.value in (
      here.before,
      here.behind,
      here.block.parts,
      subst (λ (s : List _). Holds shape.format shape.rec_len shape.offset s here.block.parts)
          same here.holds,
      here.order,
    )

pub loop-part-preserved-then-not-leaves : goal.loop-part-preserved-then-not-leaves
loop-part-preserved-then-not-leaves c = λ held bytes holds order.
    let was = c.loop-part.invariant held bytes holds order in
    let before = parts_of_all (take c.loop-block.block-index held) in
    let ends : leaves c.in-Some.part.span ≡ false = sym c.leaves.ensures ∙ c.if-not-leaves.true in
    joined_as _ _ _ _ _ _ (parts_push before c.loop-part.yielded c.in-Some.part)
    (contents_push c.loop-part.records.items c.push.new.self.items _ _ c.in_ok-push.ensures.items
    c.in_ok-extend_from_slice.ensures.items) (sym c.new-record-then-not-leaves.ensures.items)
    (joined_ends (before ++ map view c.loop-part.yielded) (view c.in-Some.part)
    (contents c.loop-part.records.items) c.loop-part.record.items was ends)

pub loop-part-preserved : goal.loop-part-preserved
loop-part-preserved c = λ held bytes holds order.
    let was = c.loop-part.invariant held bytes holds order in
    let before = parts_of_all (take c.loop-block.block-index held) in
    let goes = sym c.leaves.ensures ∙ c.if-not-leaves.false in
    joined_as _ _ _ _ _ _ (parts_push before c.loop-part.yielded c.in-Some.part) refl
    (sym c.in_ok-extend_from_slice.ensures.items)
    (joined_goes_on (before ++ map view c.loop-part.yielded) (view c.in-Some.part)
    (contents c.loop-part.records.items) c.loop-part.record.items was goes)

pub loop-block-preserved : goal.loop-block-preserved
loop-block-preserved c = λ held bytes holds order.
    let shape = c.args.shape.now in
    let was = c.loop-part.invariant held bytes holds order in
    let before = parts_of_all (take c.loop-block.block-index held) in
    let here = here_at shape held (contents c.args.blocks.now) c.loop-block.block-index false false
    (in_contents c.args.blocks.now c.loop-block.block-index c.loop-block-test.true) bytes
    holds order in
    let same = here.same ∙ text_at c.args.blocks.now c.loop-block.block-index c.block-item.result
    c.loop-block-test.true c.block-item.is ∙ sym c.deref.ensures.value in
    let left = c.new-part-items.ensures here.block.parts
    (subst (λ (s : List _). Holds shape.format shape.rec_len shape.offset s here.block.parts) same
    here.holds) in
    let come = yielded_parts c.into_iter-part-iterator.result c.loop-part.yielded
    c.loop-part.part-iterator c.loop-part.yielded_by in
    let end = c.in-None.ensures.steps in
    let all : map view c.loop-part.yielded ≡ here.block.parts =
    sym (append-nil (map view c.loop-part.yielded))
    ∙ ap (λ (ps : List Portion). map view c.loop-part.yielded ++ ps) (sym end.0) ∙ sym come
    ∙ ap parts_left c.into_iter-part-iterator.ensures.into_iter_gives ∙ left in
    joined_as _ _ _ _ _ _ (ap (λ (ps : List Portion). before ++ ps) all
    ∙ sym (ap parts_of_all here.next ∙ parts_more (take c.loop-block.block-index held) here.block))
    refl refl was
