-- The results of the check, and of the comparison with the block whose first parts were delivered,
-- for a block that contains its parts.
use Rattle.std.proofs.Common.{◌≡◌, ◌⊎◌, inl, inr, ◌<◌, ℕ, zero, suc, List, [], ◌∷◌, length, take}
use Rattle.std.proofs.Common.{drop, Bool, false, Ok, refl, sym, ap, ◌∙◌, arith, nat_le}
use Rattle.std.proofs.lemmas.Bool.Decides.{nat_tests}
use Rattle.tape_label.specs.declared.values.Format.{Format}
use Rattle.tape_label.specs.declared.values.Format.TheVariants.{Fixed, Counted, Spanned}
use Rattle.tape_label.specs.declared.values.Format.TheVariants.{Undefined, Variable}
use Rattle.tape_blocks.specs.{declared.parts.Span.Span, declared.parts.Span.TheVariants.Whole}
use Rattle.tape_blocks.specs.Block.{Portion, Holds, indicator, span_by}
use Rattle.tape_blocks.specs.{Spans.InOrder, Spans.continues, Judged.judged, Judged.begun_behind}
use Rattle.tape_blocks.proofs.FrontLaws.{spellings_first, bool_eq-same}
use Rattle.tape_blocks.proofs.{OwnLaws.judged_only, PartsLaws.parts_are}
use Rattle.tape_set.specs.Lawful.{FileForm}
use Rattle.tape_core.specs.Parts.{goes_on_by, first_goes_on, goes_on_at, parts_in, begun_before}
use Rattle.tape_core.specs.Parts.{other_front, word_goes_on}
use Rattle.tape_blocks.specs.Block.{own_len, own_offset, code, span_coded}

-- the block's parts are those of its units
pub parts_in_it : (form : FileForm) (block : List ℕ) (parts : List Portion)
    → Holds form.format form.rec_len form.offset block parts → parts_in form block ≡ parts
parts_in_it form block parts h =
    parts_are form.format (own_len form.format form.rec_len form.offset block) parts
    (drop (own_offset form.format form.offset block) block) h.0 h.1.units h.2 h.1.body

by_indicator : (span : Span) → goes_on_by (span_by (indicator span)) ≡ continues span
by_indicator Whole = refl
by_indicator _ = refl

by_code : (span : Span) → goes_on_by (span_coded (code span) 0) ≡ continues span
by_code Whole = refl
by_code _ = refl

-- the first unit continues a record if the first part does
pub first_part : (format : Format) (rec_len offset : ℕ) (block : List ℕ)
    (p : Portion) (ps : List Portion)
    → Holds format rec_len offset block (p ∷ ps) → goes_on_at format offset block ≡ continues p.span
first_part Fixed rec_len offset block p ps h = sym (ap continues h.1.units.0.0)
first_part Counted rec_len offset block p ps h = sym (ap continues h.1.units.0.0)
first_part Undefined rec_len offset block p ps h = sym (ap continues h.1.units.0.0)
first_part Variable rec_len offset block p ps h =
    ap word_goes_on (h.1.body ∙ spellings_first Variable p ps h.0) ∙ by_code p.span
first_part Spanned rec_len offset block p ps h =
    ap first_goes_on (h.1.body ∙ spellings_first Spanned p ps h.0) ∙ by_indicator p.span

-- if a block continues in span order, its first part shows whether a record is unfinished before it
pub first_begun : (form : FileForm) (block : List ℕ) (parts : List Portion)
    (begun end : Bool) (part : ℕ)
    → Holds form.format form.rec_len form.offset block parts → InOrder begun parts end
    → part < length parts
    → goes_on_at form.format form.offset block ≡ begun
first_begun form block [] begun end part h o lt = absurd (omega arith)
first_begun form block (p ∷ ps) begun end part h o lt =
    first_part form.format form.rec_len form.offset block p ps h ∙ o.0

-- whether a record is unfinished at the start of the block, also if some of its parts were
-- delivered; `now` is the state after these parts
pub before_it : (form : FileForm) (block : List ℕ) (parts : List Portion)
    (begun now end : Bool) (part : ℕ)
    → Holds form.format form.rec_len form.offset block parts → InOrder begun parts end
    → (part ≡ 0) ⊎ (part < length parts) → now ≡ begun_behind begun (take part parts)
    → begun_before form part now block ≡ begun
before_it form block parts begun now end zero h o within is = is
before_it form block parts begun now end (suc part) h o (inl e) is = absurd (omega arith)
before_it form block parts begun now end (suc part) h o (inr lt) is =
    first_begun form block parts begun end (suc part) h o lt

-- the block passes the check
pub checked : (form : FileForm) (block : List ℕ) (parts : List Portion)
    (begun now end : Bool) (part : ℕ)
    → Holds form.format form.rec_len form.offset block parts → InOrder begun parts end
    → (part ≡ 0) ⊎ (part < length parts) → now ≡ begun_behind begun (take part parts)
    → judged form.format form.rec_len form.offset (begun_before form part now block) block ≡ Ok end
checked form block parts begun now end part h o within is =
    rw (before_it form block parts begun now end part h o within is)
    (judged_only form.format form.rec_len form.offset begun end block parts h o)

-- the block does not differ from the one whose first parts were delivered
pub same_front : (form : FileForm) (block : List ℕ) (parts : List Portion)
    (begun now end : Bool) (part : ℕ)
    → Holds form.format form.rec_len form.offset block parts → InOrder begun parts end
    → (part ≡ 0) ⊎ (part < length parts) → now ≡ begun_behind begun (take part parts)
    → other_front form part now block ≡ false
same_front form block parts begun now end zero h o within is = refl
same_front form block parts begun now end (suc part) h o (inl e) is = absurd (omega arith)
same_front form block parts begun now end (suc part) h o (inr lt) is =
    let more : nat_le (length parts) (suc part) ≡ false = grind (arith, nat_tests) in
    rw (
      parts_in_it form block parts h,
      first_begun form block parts begun end (suc part) h o lt,
      sym is,
      bool_eq-same now,
      more,
    ) refl
