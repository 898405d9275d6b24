use Rattle.std.proofs.Common.{◌≡◌, ◌≤◌, ◌++◌, ◌∷◌, [], ℕ, List, length, map, Bool, sym, ap, ◌∙◌}
use Rattle.std.proofs.Common.{subst, Ok, arith, length-append, not, true, false, refl}
use mathlib.Core.Bool.{beq}
use Rattle.std.proofs.lemmas.List.{append-nil, length-map, map-append}
use Rattle.std.specs.Iterator.{YieldsFirstBy, Yields}
use Rattle.tape_label.specs.declared.values.{Format.Format, Format.TheVariants.Fixed}
use Rattle.tape_set.specs.Lawful.{FileForm}
use Rattle.tape_blocks.specs.declared.parts.{Part.Part, Parts.Parts}
use Rattle.tape_blocks.specs.{Block.Portion, Block.Holds, Judged.judged, Judged.begun_behind}
use Rattle.tape_blocks.specs.{Parts.view, PartsLeft.parts_left, Faults.bool_eq}
use Rattle.tape_blocks.proofs.{OwnLaws.judged_found, YieldLaws.yielded_parts}
use Rattle.tape_core.specs.Parts.{parts_in, goes_on_at}
use Rattle.tape_core.proofs.BlockLaws.{parts_in_it}
use Rattle.tape_core.proofs.StateLaws.{one_more, front_at, front_short}
use Rattle.tape_core.proofs.reader.judging.other_front.Goals as goal

pub new-each-items-requires : goal.new-each-items-requires
new-each-items-requires c =
    let s = c.shape_of.result in
    let e = c.shape_of.ensures in
    let r = c.requires.checked in
    let j : judged s.format s.rec_len s.offset r.0 c.args.block.now ≡ Ok r.1 =
    rw (e.format, e.rec_len, e.offset) r.2 in
    let h = judged_found s.format s.rec_len s.offset r.0 r.1 c.args.block.now s.some_record j in
    (r.0, r.1, h.0, h.1, h.2)

-- the remaining parts of the block
parts_all : (form : FileForm) (block : List ℕ) (before end : Bool) (format : Format) (rec_len
    offset : ℕ) (s t : Parts) (xs : List Part) → (format ≡ Fixed → 1 ≤ rec_len)
    → format ≡ form.format → rec_len ≡ form.rec_len → offset ≡ form.offset
    → judged form.format form.rec_len form.offset before block ≡ Ok end
    → ((parts : List Portion) → Holds format rec_len offset block parts → parts_left s ≡ parts)
    → Yields (YieldsFirstBy view parts_left) s xs t
    → parts_in form block ≡ map view xs ++ parts_left t
parts_all form block before end format rec_len offset s t xs some f r o j new by =
    let j' : judged format rec_len offset before block ≡ Ok end =
    ap (λ z. judged z rec_len offset before block) f
    ∙ (ap (λ z. judged form.format z offset before block) r
    ∙ (ap (λ z. judged form.format form.rec_len z before block) o ∙ j)) in
    let h = judged_found format rec_len offset before end block some j' in
    let held : Holds form.format form.rec_len form.offset block h.0 =
    subst (λ z. Holds z form.rec_len form.offset block h.0) f
    (subst (λ z. Holds format z form.offset block h.0) r
    (subst (λ z. Holds format rec_len z block h.0) o h.1)) in
    parts_in_it form block h.0 held ∙ (sym (new h.0 h.1) ∙ yielded_parts s xs t by)

-- the comparison of two truth values is that of the definition
beq_is : (a b : Bool) → beq a b ≡ bool_eq a b
beq_is true true = refl
beq_is true false = refl
beq_is false true = refl
beq_is false false = refl

pub returns-then-left-eq0 : goal.returns-then-left-eq0
returns-then-left-eq0 c =
    let s = c.shape_of.result in
    let e = c.shape_of.ensures in
    let r = c.requires.checked in
    let i = c.loop-each.invariant in
    let all = parts_all c.args.known.now c.args.block.now r.0 r.1 s.format s.rec_len s.offset
    c.into_iter-each-iterator.result c.loop-each.each-iterator c.loop-each.yielded s.some_record
    e.format e.rec_len e.offset r.2
    (λ parts h. ap parts_left c.into_iter-each-iterator.ensures.into_iter_gives
    ∙ c.new-each-items.ensures parts h) c.loop-each.yielded_by in
    let is : parts_in c.args.known.now c.args.block.now
    ≡ map view c.loop-each.yielded ++ view c.in-Some.each ∷ parts_left c.next.new.self =
    all ∙ ap (λ z. map view c.loop-each.yielded ++ z) c.in-Some.ensures.steps in
    let n : length (map view c.loop-each.yielded) ≡ c.args.part =
    length-map c.loop-each.yielded view ∙ omega (arith, i.0, c.if-left-eq0.true) in
    ap not (beq_is c.loop-each.going c.args.begun)
    ∙ front_at c.args.known.now c.args.part c.args.begun c.loop-each.going
    c.args.block.now (map view c.loop-each.yielded) (parts_left c.next.new.self)
    (view c.in-Some.each) is n (λ e. absurd (omega (arith, e, c.requires.some))) i.1

pub loop-each-preserved : goal.loop-each-preserved
loop-each-preserved c =
    let i = c.loop-each.invariant in
    let n = length-append c.loop-each.yielded (c.in-Some.each ∷ []) in (
      omega (arith, n, i.0, c.if-left-eq0.false),
      c.leaves-going.ensures
          ∙ (sym (one_more _ (map view c.loop-each.yielded) (view c.in-Some.each))
          ∙ ap (λ z. begun_behind (goes_on_at c.args.known.now.format c.args.known.now.offset
          c.args.block.now) z) (sym (map-append view c.loop-each.yielded (c.in-Some.each ∷ [])))),
    )

pub returns : goal.returns
returns c =
    let s = c.shape_of.result in
    let e = c.shape_of.ensures in
    let r = c.requires.checked in
    let i = c.loop-each.invariant in
    let all = parts_all c.args.known.now c.args.block.now r.0 r.1 s.format s.rec_len s.offset
    c.into_iter-each-iterator.result c.loop-each.each-iterator c.loop-each.yielded s.some_record
    e.format e.rec_len e.offset r.2
    (λ parts h. ap parts_left c.into_iter-each-iterator.ensures.into_iter_gives
    ∙ c.new-each-items.ensures parts h) c.loop-each.yielded_by in
    let is : parts_in c.args.known.now c.args.block.now ≡ map view c.loop-each.yielded =
    all ∙ (ap (λ z. map view c.loop-each.yielded ++ z) c.in-None.ensures.steps.0
    ∙ append-nil (map view c.loop-each.yielded)) in
    let n : length (parts_in c.args.known.now c.args.block.now) ≡ length c.loop-each.yielded =
    ap length is ∙ length-map c.loop-each.yielded view in
    front_short c.args.known.now c.args.part c.args.begun c.args.block.now
    (omega (arith, n, i.0)) (λ e. absurd (omega (arith, e, c.requires.some)))
