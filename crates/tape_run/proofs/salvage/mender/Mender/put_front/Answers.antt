use Rattle.std.proofs.Common.{◌≡◌, ◌∷◌, ◌++◌, [], map, sym, ap, subst, ◌∙◌, append-nil}
use Rattle.std.proofs.lemmas.List.{map-append}
use Rattle.tape_blocks.specs.{Judged.in_order, Parts.view, PartsLeft.parts_left}
use Rattle.tape_core.specs.Parts.{parts_in}
use Rattle.tape_run.proofs.{Blocks.stands_here, SalvagePieces.with_one_more}
use Rattle.tape_run.proofs.SalvagePieces.{stops_there, goes_further, not_equal, are_equal}
use Rattle.tape_run.specs.SalvageRecords.{HasPiece, with_parts}
use Rattle.tape_run.proofs.salvage.mender.Mender.put_front.Goals as goal

pub returns-then-continues-going-clause-ok : goal.returns-then-continues-going-clause-ok
returns-then-continues-going-clause-ok g c =
    let l = c.loop-part in
    let e = c.shape_of.ensures in
    let ys = map view l.yielded in
    let rest = parts_left c.next.new.self in
    let all : parts_left c.at_front-part-items.result ≡ parts_in c.args.form.now c.args.block.now =
    simp (e.format, e.rec_len, e.offset) at c.at_front-part-items.ensures in
    let at = stands_here c.at_front-part-items.result c.into_iter-part-iterator.result
    l.part-iterator l.yielded _ (view c.in-Some.part ∷ rest) all
    c.into_iter-part-iterator.ensures.into_iter_gives l.yielded_by c.in-Some.ensures.steps in
    let off = not_equal c.continues.result l.going _ c.continues.ensures
    c.if-continues-going.true in
    let same : in_order c.args.begun (parts_in c.args.form.now c.args.block.now) ≡ ys =
    ap (in_order c.args.begun) at
    ∙ stops_there c.args.begun l.going ys (view c.in-Some.part) rest l.invariant.1 off in
    λ start p h. rw same (l.invariant.0 start p h)

pub loop-part-preserved : goal.loop-part-preserved
loop-part-preserved g c =
    let l = c.loop-part in
    let ys = map view l.yielded in
    let x = view c.in-Some.part in
    let more : map view (l.yielded ++ c.in-Some.part ∷ []) ≡ ys ++ x ∷ [] =
    map-append view l.yielded (c.in-Some.part ∷ []) in
    let on = are_equal c.continues.result l.going _ c.continues.ensures
    c.if-continues-going.false in (
      λ start p h. subst (HasPiece g.W.Write.contents start c.put.new.self)
          (sym (ap (with_parts p) more ∙ with_one_more p ys _))
          (c.in_ok-put.ensures.ok start (with_parts p ys) (l.invariant.0 start p h)),
      λ zs. rw (more, c.leaves-going.ensures)
          (goes_further c.args.begun l.going ys x zs l.invariant.1 on),
    )

pub returns-clause-ok : goal.returns-clause-ok
returns-clause-ok g c =
    let l = c.loop-part in
    let e = c.shape_of.ensures in
    let ys = map view l.yielded in
    let all : parts_left c.at_front-part-items.result ≡ parts_in c.args.form.now c.args.block.now =
    simp (e.format, e.rec_len, e.offset) at c.at_front-part-items.ensures in
    let at = stands_here c.at_front-part-items.result c.into_iter-part-iterator.result
    l.part-iterator l.yielded _ [] all c.into_iter-part-iterator.ensures.into_iter_gives
    l.yielded_by c.in-None.ensures.steps.0 in
    let same : in_order c.args.begun (parts_in c.args.form.now c.args.block.now) ≡ ys =
    ap (in_order c.args.begun) at ∙ l.invariant.1 [] ∙ append-nil ys in
    λ start p h. rw same (l.invariant.0 start p h)
