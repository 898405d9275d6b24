-- Steps preserve the invariant of readers.
use Rattle.std.proofs.Common.{◌≡◌, ◌<◌, ◌≤◌, ◌⊎◌, inl, inr, ℕ, zero, suc, ◌+◌, List, [], ◌∷◌, ◌++◌}
use Rattle.std.proofs.Common.{length, take, Bool, true, false, Some, refl, sym, ap, ◌∙◌, arith}
use Rattle.std.proofs.Common.{length-append, ◌==◌, ◌&&◌, ◌||◌, not, nat_le}
use Rattle.std.proofs.lemmas.Bool.Decides.{nat_tests}
use Rattle.std.specs.List.{AllByRecursion}
use Rattle.tape_label.specs.declared.values.Format.{Format}
use Rattle.tape_label.specs.declared.values.Format.TheVariants.{Fixed, Counted, Spanned}
use Rattle.tape_label.specs.declared.values.Format.TheVariants.{Undefined, Variable}
use Rattle.tape_blocks.specs.{declared.parts.Span.TheVariants.Whole, Block.Portion, Block.IsUnit}
use Rattle.tape_blocks.specs.{Spans.InOrder, Spans.leaves, Faults.bool_eq, Judged.begun_behind}
use Rattle.tape_set.specs.{declared.position.Position.Position, Lawful.FileForm, Layout.FileSet}
use Rattle.tape_set.specs.Position.{is_start, awaiting}
use Rattle.tape_set.proofs.FileParts.{begun_behind-append}
use Rattle.tape_core.specs.{declared.event.Phase.Phase, declared.event.Phase.TheVariants.Broken}
use Rattle.tape_core.specs.{Known.is_spanned, State.ToldFits, State.is_broken, Follows.Follows}
use Rattle.tape_core.specs.Parts.{parts_in, goes_on_at, begun_before, other_front}

pub later_start : (sect place : ℕ) → is_start (awaiting sect (place + 1)) ≡ false
later_start sect place =
    let z : ((place + 1) == 0) ≡ false = grind (arith, nat_tests) in
    rw z (go (sect == 1))
  where
    go : (t : Bool) → ((t && false) && true) ≡ false
    go true = refl
    go false = refl

-- ---- the parts of a block whose first parts were delivered

pub one_more : (first : Bool) (ps : List Portion) (p : Portion)
    → begun_behind first (ps ++ p ∷ []) ≡ leaves p.span
one_more first ps p = begun_behind-append first ps (p ∷ [])

-- the block has `part` parts and one more
pub front_at : (form : FileForm) (part : ℕ) (begun going : Bool) (block : List ℕ)
    (seen more : List Portion) (p : Portion)
    → parts_in form block ≡ seen ++ p ∷ more → length seen ≡ part → (part ≡ 0 → ⊥)
    → going ≡ begun_behind (goes_on_at form.format form.offset block) seen
    → not (bool_eq going begun) ≡ other_front form part begun block
front_at form zero begun going block seen more p is n some g = absurd (some refl)
front_at form (suc part) begun going block seen more p is n some g =
    let long : nat_le (length (parts_in form block)) (suc part) ≡ false =
    (let q : length (parts_in form block) ≡ length seen + length (p ∷ more) = ap length is
    ∙ length-append seen (p ∷ more) in grind (arith, nat_tests, q, n)) in
    let front : take (suc part) (parts_in form block) ≡ seen =
    ap (λ z. take (suc part) z) is ∙ take_front seen (p ∷ more) (suc part) n in
    rw (long, front, sym g) refl
  where
    take_front : (xs ys : List Portion) (m : ℕ) → length xs ≡ m → take m (xs ++ ys) ≡ xs
    take_front [] ys zero h = refl
    take_front [] ys (suc m) h = absurd (omega arith)
    take_front (x ∷ xs) ys zero h = absurd (omega arith)
    take_front (x ∷ xs) ys (suc m) h = ap (λ z. x ∷ z) (take_front xs ys m (omega arith))

-- the block has at most `part` parts
pub front_short : (form : FileForm) (part : ℕ) (begun : Bool) (block : List ℕ)
    → length (parts_in form block) ≤ part → (part ≡ 0 → ⊥)
    → true ≡ other_front form part begun block
front_short form zero begun block le some = absurd (some refl)
front_short form (suc part) begun block le some =
    let long : nat_le (length (parts_in form block)) (suc part) ≡ true = grind (arith, nat_tests) in
    rw long refl

-- ---- only formats S and V leave a record unfinished

whole_ends : (begun end : Bool) (p : Portion) (ps : List Portion)
    → AllByRecursion (λ q. q.span ≡ Whole) (p ∷ ps) → InOrder begun (p ∷ ps) end → false ≡ end
whole_ends begun end p [] h o = sym (ap leaves h.0) ∙ o.1
whole_ends begun end p (q ∷ ps) h o = whole_ends (leaves p.span) end q ps h.1 o.1

wholes : (format : Format) (rec_len : ℕ) (ps : List Portion) → is_spanned format ≡ false
    → AllByRecursion (IsUnit format rec_len) ps → AllByRecursion (λ q. q.span ≡ Whole) ps
wholes format rec_len [] n h = tt
wholes Fixed rec_len (p ∷ ps) n h = (h.0.0, wholes Fixed rec_len ps n h.1)
wholes Counted rec_len (p ∷ ps) n h = (h.0.0, wholes Counted rec_len ps n h.1)
wholes Spanned rec_len (p ∷ ps) n h = absurd (cc)
wholes Undefined rec_len (p ∷ ps) n h = (h.0.0, wholes Undefined rec_len ps n h.1)
wholes Variable rec_len (p ∷ ps) n h = absurd (cc)

pub begun_spans : (format : Format) (rec_len : ℕ) (begun end : Bool) (ps : List Portion)
    → AllByRecursion (IsUnit format rec_len) ps → InOrder begun ps end
    → (begun ≡ true → is_spanned format ≡ true) → end ≡ true → is_spanned format ≡ true
begun_spans format rec_len begun end [] h o b e = b (o ∙ e)
begun_spans format rec_len begun end (p ∷ ps) h o b e = go (is_spanned format) refl
  where
    go : (t : Bool) → is_spanned format ≡ t → is_spanned format ≡ true
    go true q = q
    go false q =
        absurd (let d = whole_ends begun end p ps (wholes format rec_len (p ∷ ps) q h) o ∙ e in cc)

goes_on_spans : (format : Format) (offset : ℕ) (block : List ℕ)
    → goes_on_at format offset block ≡ true → is_spanned format ≡ true
goes_on_spans Fixed offset block e = absurd (cc)
goes_on_spans Counted offset block e = absurd (cc)
goes_on_spans Spanned offset block e = refl
goes_on_spans Undefined offset block e = absurd (cc)
goes_on_spans Variable offset block e = refl

pub before_spans : (form : FileForm) (part : ℕ) (begun : Bool) (block : List ℕ)
    → ToldFits begun (Some form) → begun_before form part begun block ≡ true
    → is_spanned form.format ≡ true
before_spans form zero begun block t e = t e
before_spans form (suc part) begun block t e = goes_on_spans form.format form.offset block e

-- a block that does not differ from the one whose first parts were delivered contains the expected
-- part
pub front_more : (form : FileForm) (part : ℕ) (begun : Bool) (block : List ℕ) (parts : List Portion)
    → parts_in form block ≡ parts → other_front form part begun block ≡ false
    → (part ≡ 0) ⊎ (part < length parts)
front_more form zero begun block parts is e = inl refl
front_more form (suc part) begun block parts is e =
    go (nat_le (length (parts_in form block)) (suc part)) refl e
  where
    go : (t : Bool) → nat_le (length (parts_in form block)) (suc part) ≡ t
        → (t || not (bool_eq (begun_behind (goes_on_at form.format form.offset block)
        (take (suc part) (parts_in form block))) begun)) ≡ false
        → (suc part ≡ 0) ⊎ (suc part < length parts)
    go true q f = absurd (cc)
    go false q f =
        let n : length (parts_in form block) ≡ length parts = ap length is in
        inr (grind (arith, nat_tests, q, n))

-- a state that follows a reading is not broken
pub follows_sound : (set : FileSet) (file sect block part k : ℕ) (phase : Phase)
    (position : Position)
    (good : List Bool)
    → Follows set file sect block part k phase position good → is_broken phase ≡ false
follows_sound set file sect block part k Broken position good h = absurd h
follows_sound set file sect block part k phase position good h = refl
