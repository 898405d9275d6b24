use Rattle.std.proofs.Common.{◌≡◌, ◌<◌, ◌≤◌, ◌⊎◌, length, ap, sym, ◌∙◌, subst}
use Rattle.tape_blocks.specs.Block.{Holds, own_len}
use Rattle.tape_blocks.proofs.OwnLaws.{few_parts}
use Rattle.tape_core.specs.Known.{is_spanned}
use Rattle.tape_core.proofs.BlockLaws.{parts_in_it}
use Rattle.tape_core.proofs.StateLaws.{begun_spans, before_spans, front_more}
use Rattle.std.proofs.Common.{Bool, List, ℕ, zero, suc, refl, false, arith}
use Rattle.tape_set.specs.Lawful.{FileForm}
use Rattle.tape_core.specs.Parts.{begun_before, other_front, goes_on_at}
use Rattle.tape_core.proofs.reader.judging.judge_awaited.Goals as goal

-- no part was delivered, or some were
none_before : (form : FileForm) (part : ℕ) (begun : Bool) (block : List ℕ) → part ≡ 0
    → begun_before form part begun block ≡ begun
none_before form part begun block none = ap (λ n. begun_before form n begun block) none

some_before : (form : FileForm) (part : ℕ) (begun : Bool) (block : List ℕ) → (part ≡ 0 → ⊥)
    → begun_before form part begun block ≡ goes_on_at form.format form.offset block
some_before form zero begun block some = absurd (some refl)
some_before form (suc part) begun block some = refl

-- only formats S and V leave a record unfinished
pub returns-in-Ok-2-clause-told : goal.returns-in-Ok-2-clause-told
returns-in-Ok-2-clause-told c = λ e.
    let form = c.args.form.now in
    let part = c.args.part in
    let begun = c.args.begun in
    let block = c.args.block.now in
    let before : begun_before form part begun block ≡ c.if-part-eq0.before =
    elim c.if-part-eq0.branch [
      | goal.then-part-eq0 w ↦
          none_before form part begun block w.if-part-eq0.true ∙ sym w.before-is
      | goal.else-part-eq0 w ↦
          some_before form part begun block w.if-part-eq0.false
          ∙ ap (λ (f : FileForm). goes_on_at f.format f.offset block) (sym c.form.view_is)
          ∙ sym (w.before-is ∙ w.goes_on_at-before.ensures)
    ] in
    let s = c.shape_of.result in
    let f = c.in-Ok.ensures.found in
    ap is_spanned (sym c.shape_of.ensures.format)
    ∙ begun_spans s.format (own_len s.format s.rec_len s.offset block) c.if-part-eq0.before
    c.in-Ok.field-0 f.0 f.1.1.units f.2 (λ b. ap is_spanned c.shape_of.ensures.format
    ∙ before_spans c.args.form.now c.args.part c.args.begun c.args.block.now c.requires.told
    (before ∙ b)) e

-- the block was checked
pub returns-in-Ok-2-clause-holds : goal.returns-in-Ok-2-clause-holds
returns-in-Ok-2-clause-holds c =
    let e = c.shape_of.ensures in
    let f = c.in-Ok.ensures.found in
    let form = c.args.form.now in
    let block = c.args.block.now in
    let other : other_front form c.args.part c.args.begun block ≡ false =
    elim c.if-part-gt0.branch [
      | goal.then-part-gt0+else-other_front w ↦ sym w.other_front.ensures ∙ w.if-other_front.false
      | goal.else-part-gt0 w ↦
          ap (λ n. other_front form n c.args.begun block) {x = c.args.part} {y = 0}
          (omega (arith, w.if-part-gt0.false))
    ] in
    let holds : Holds form.format form.rec_len form.offset block f.0 =
    subst (λ z. Holds z form.rec_len form.offset block f.0) e.format
    (subst (λ z. Holds c.shape_of.result.format z form.offset block f.0) e.rec_len (subst
    (λ z. Holds c.shape_of.result.format c.shape_of.result.rec_len z block f.0) e.offset f.1)) in
    let some : (c.args.part ≡ 0) ⊎ (c.args.part < length f.0) =
    front_more form c.args.part c.args.begun block f.0
    (parts_in_it form block f.0 holds) (other) in (
      c.if-part-eq0.before,
      f.0,
      holds,
      f.2,
      some,
      few_parts form.format form.rec_len form.offset block f.0
          (λ q. subst (λ z. 1 ≤ z) e.rec_len (c.shape_of.result.some_record (e.format ∙ q))) holds,
    )
