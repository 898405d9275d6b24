use Rattle.std.proofs.Common.{◌≡◌, ◌∷◌, [], map, Ok, sym, ap, subst, ◌∙◌, append-nil}
use Rattle.std.proofs.lemmas.List.{map-append}
use Rattle.tape_blocks.specs.{Judged.judged, Parts.view}
use Rattle.tape_blocks.proofs.OwnLaws.{judged_found}
use Rattle.tape_core.specs.Parts.{parts_in}
use Rattle.tape_core.proofs.BlockLaws.{parts_in_it}
use Rattle.tape_run.proofs.{Blocks.stands_here, SalvagePieces.with_one_more}
use Rattle.tape_run.specs.SalvageRecords.{HasPiece, with_parts}
use Rattle.tape_run.proofs.salvage.mender.Mender.put_parts.Goals as goal

pub new-part-items-requires : goal.new-part-items-requires
new-part-items-requires g c =
    let s = c.shape_of.result in
    let e = c.shape_of.ensures in
    let r = c.requires.checked in
    let j : judged s.format s.rec_len s.offset r.0 c.args.block.now ≡ Ok r.1 =
    rw (e.format, e.rec_len, e.offset) r.2 in
    let h = judged_found s.format s.rec_len s.offset r.0 r.1 _ s.some_record j in
    (r.0, r.1, h.0, h.1, h.2)

pub loop-part-preserved : goal.loop-part-preserved
loop-part-preserved g c = λ start p h.
    let l = c.loop-part in
    let more = c.in_ok-put.ensures.ok start (with_parts p (map view l.yielded))
    (l.invariant start p h) in
    subst (HasPiece g.W.Write.contents start c.put.new.self) (sym (ap (with_parts p)
    (map-append view l.yielded (c.in-Some.part ∷ [])) ∙ with_one_more p (map view l.yielded) _))
    more

pub returns-clause-ok : goal.returns-clause-ok
returns-clause-ok g c =
    let s = c.shape_of.result in
    let e = c.shape_of.ensures in
    let r = c.requires.checked in
    let form = c.args.form.now in
    let j : judged s.format s.rec_len s.offset r.0 c.args.block.now ≡ Ok r.1 =
    rw (e.format, e.rec_len, e.offset) r.2 in
    let h = judged_found s.format s.rec_len s.offset r.0 r.1 c.args.block.now s.some_record j in
    let at = stands_here c.new-part-items.result c.into_iter-part-iterator.result
    c.loop-part.part-iterator c.loop-part.yielded h.0 [] (c.new-part-items.ensures h.0 h.1)
    c.into_iter-part-iterator.ensures.into_iter_gives c.loop-part.yielded_by
    c.in-None.ensures.steps.0 in
    let same : map view c.loop-part.yielded ≡ parts_in form c.args.block.now =
    sym (at ∙ append-nil (map view c.loop-part.yielded))
    ∙ sym (parts_in_it form c.args.block.now h.0 (simp (e.format, e.rec_len, e.offset) at h.1)) in
    λ start p was.
    rw same at (c.loop-part.invariant start p was)
