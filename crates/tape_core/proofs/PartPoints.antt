-- The checkpoint inside a block, some of whose parts were kept.
use Rattle.std.proofs.Common.{◌≡◌, ◌<◌, ◌≤◌, ℕ, zero, suc, ◌-◌, List, [], ◌∷◌, ◌++◌, length, take}
use Rattle.std.proofs.Common.{drop, Bool, true, false, Some, None, refl, sym, ap, ◌∙◌, subst, inr}
use Rattle.std.proofs.Common.{append_assoc, arith, ◌==◌, ◌&&◌, MatchBool}
use Rattle.std.specs.List.{AllByRecursion}
use Rattle.std.proofs.lemmas.{Bool.Decides.nat_tests, Option.slice_get_within}
use Rattle.std.proofs.Math.Seq.{take-nil}
use Rattle.tape_image.specs.Tape.{TapeItem}
use Rattle.tape_label.specs.declared.values.Format.{Format}
use Rattle.tape_label.specs.declared.values.Format.TheVariants.{Fixed, Counted, Spanned}
use Rattle.tape_label.specs.declared.values.Format.TheVariants.{Undefined, Variable}
use Rattle.tape_blocks.specs.{Block.Portion, Block.IsUnit, Judged.begun_behind}
use Rattle.tape_blocks.specs.Spans.{InOrder, continues, leaves}
use Rattle.tape_set.specs.declared.position.{Position.Position, Position.TheVariants.Awaits}
use Rattle.tape_set.specs.{Position.at_part, Position.is_start, Layout.FileSet, Lawful.FileForm}
use Rattle.tape_set.specs.Before.{before, parts_of, IsIn}
use Rattle.tape_set.proofs.Numbering.{FileOf, section_found}
use Rattle.tape_set.proofs.FileParts.{before_taken, begun_behind-append}
use Rattle.tape_core.specs.{Known.is_spanned, Known.may_span, State.State, Point.Point, Table.saved}
use Rattle.tape_blocks.specs.Block.{own_len}
use Rattle.tape_core.specs.Follows.{IsAt, FileTells, Delivers}
use Rattle.tape_core.specs.Stands.{weight_of, Stands, inside_block}

take_split : (k n : ℕ) (xs : List Portion) → k ≤ n
    → take n xs ≡ take k xs ++ take (n - k) (drop k xs)
take_split zero n xs h = let e : n - 0 ≡ n = omega arith in rw e refl
take_split (suc k) zero xs h = absurd (omega arith)
take_split (suc k) (suc n) [] h = sym (take-nil {A = Portion} (suc n - suc k))
take_split (suc k) (suc n) (x ∷ xs) h =
    let e : suc n - suc k ≡ n - k = omega arith in
    rw e (ap (λ z. x ∷ z) (take_split k n xs (omega arith)))

-- only units of formats S and V continue a record
goes_on : (format : Format) (rec_len : ℕ) (p : Portion) → IsUnit format rec_len p
    → continues p.span ≡ true → is_spanned format ≡ true
goes_on Fixed rec_len p u e = absurd (let q = sym (ap continues u.0) ∙ e in cc)
goes_on Counted rec_len p u e = absurd (let q = sym (ap continues u.0) ∙ e in cc)
goes_on Spanned rec_len p u e = refl
goes_on Undefined rec_len p u e = absurd (let q = sym (ap continues u.0) ∙ e in cc)
goes_on Variable rec_len p u e = refl

inside_spans : (format : Format) (rec_len : ℕ) (begun end : Bool) (ps : List Portion) (j : ℕ)
    → AllByRecursion (IsUnit format rec_len) ps → InOrder begun ps end → j < length ps
    → begun_behind begun (take j ps) ≡ true → is_spanned format ≡ true
inside_spans format rec_len begun end [] j u o lt e = absurd (omega arith)
inside_spans format rec_len begun end (p ∷ ps) zero u o lt e =
    goes_on format rec_len p u.0 (o.0 ∙ e)
inside_spans format rec_len begun end (p ∷ ps) (suc j) u o lt e =
    inside_spans format rec_len (leaves p.span) end ps j u.1 o.1 (omega arith) e

every_drop : {A : Type 0} (P : A → Type 0) (k : ℕ) (xs : List A) → AllByRecursion P xs
    → AllByRecursion P (drop k xs)
every_drop P zero xs h = h
every_drop P (suc k) [] h = tt
every_drop P (suc k) (x ∷ xs) h = every_drop P k xs h.1

drop_long : {A : Type 0} (k n : ℕ) (xs : List A) → k < n → n < length xs
    → n - k < length (drop k xs)
drop_long zero n xs h g = let e : n - 0 ≡ n = omega arith in rw e g
drop_long (suc k) zero xs h g = absurd (omega arith)
drop_long (suc k) (suc n) [] h g = absurd (omega arith)
drop_long (suc k) (suc n) (x ∷ xs) h g =
    let e : suc n - suc k ≡ n - k = omega arith in
    rw e (drop_long k n xs (omega arith) (omega arith))

and_so : (b t : Bool) → (b ≡ true → t ≡ true) → (b && t) ≡ b
and_so true t h = h refl
and_so false t h = refl

later_part : (sect place part : ℕ) → 0 < part → is_start (Awaits sect place part) ≡ false
later_part sect place part h =
    let z : (part == 0) ≡ false = grind (arith, nat_tests) in
    rw z (go ((sect == 1) && (place == 0)))
  where
    go : (t : Bool) → (t && false) ≡ false
    go true = refl
    go false = refl

-- If `part` parts of the delivered block were kept, the checkpoint inside the block is valid.
pub part_stands : (set : FileSet) (old new : State) (item : TapeItem) (staged part : ℕ)
    (begun : Bool) (n : ℕ)
    → IsAt set old → new.set_id ≡ set.set_id → new.file ≡ old.file → (d : Delivers set item old new)
    → d.part < part → part < length d.filled.parts
    → begun ≡ begun_behind old.begun (take (part - d.part) (drop d.part d.filled.parts))
    → n ≡ weight_of (before set old.file old.position
    ++ take (part - d.part) (drop d.part d.filled.parts))
    → Stands set old.file (inside_block (saved new staged) old.position part begun n)
    (before set old.file old.position ++ take (part - d.part) (drop d.part d.filled.parts))
part_stands set old new item staged part begun n at of_set same d lt le is weighs =
    record {
      of_set = of_set;
      of_file = same;
      there = record {
        inside = subst (λ p. IsIn set old.file p) (sym place_is) (
          d.section,
          d.found,
          within,
          inr (subst (λ z. part < length z) (sym (ap parts_of d.its)) le),
        );
        span = span_is;
        tells = known_is;
      };
      all = parts_are;
      staged = weighs;
    }
  where
    f : FileOf set old.file d.sect d.section
    f = section_found set old.file d.sect d.section d.found

    kept : List Portion
    kept = take (part - d.part) (drop d.part d.filled.parts)

    place_is : at_part part old.position ≡ Awaits d.sect d.place part
    place_is = ap (at_part part) d.awaited

    within : d.place ≤ length d.section.blocks
    within = let h = slice_get_within d.section.blocks d.place d.filled d.its in omega (arith, h)

    old_parts : before set old.file old.position
        ≡ before set old.file (Awaits d.sect d.place 0) ++ take d.part d.filled.parts
    old_parts = ap (λ p. before set old.file p) d.awaited
        ∙ before_taken set old.file d.sect d.section f d.place d.part d.filled d.its

    parts_are : before set old.file old.position ++ kept
        ≡ before set old.file (at_part part old.position)
    parts_are =
        ap (λ z. z ++ kept) old_parts
        ∙ (append_assoc (before set old.file (Awaits d.sect d.place 0))
        (take d.part d.filled.parts) kept
        ∙ (ap (λ z. before set old.file (Awaits d.sect d.place 0) ++ z)
        (sym (take_split d.part part d.filled.parts (omega (arith, lt))))
        ∙ sym (ap (λ p. before set old.file p) place_is
        ∙ before_taken set old.file d.sect d.section f d.place part d.filled d.its)))

    spans : begun ≡ true → may_span new.known ≡ true
    spans e = ap may_span d.is_known ∙ inside_spans d.form.format
        (own_len d.form.format d.form.rec_len d.form.offset d.filled.bytes) old.begun new.begun
        (drop d.part d.filled.parts) (part - d.part) (every_drop _ d.part d.filled.parts
        d.holds.1.units) d.order (drop_long d.part part d.filled.parts lt le) (sym is ∙ e)

    span_is : (begun && may_span new.known)
        ≡ begun_behind false (before set old.file (at_part part old.position))
    span_is =
        and_so begun (may_span new.known) spans
        ∙ (is ∙ (ap (λ z. begun_behind z kept) at.stands.span
        ∙ (sym (begun_behind-append false (before set old.file old.position) kept)
        ∙ ap (λ z. begun_behind false z) parts_are)))

    known_is : MatchBool (is_start (at_part part old.position)) (new.known
        ≡ None) ((form : FileForm) × (new.known ≡ Some form) × FileTells set old.file form)
    known_is = subst (λ b. MatchBool b (new.known ≡ None) ((form : FileForm)
        × (new.known ≡ Some form) × FileTells set old.file form)) (sym (ap is_start place_is
        ∙ later_part d.sect d.place part (omega (arith, lt)))) (d.form, d.is_known, d.tells)

pub point_stands : (point result : Point) (p : Position) (part : ℕ) (begun : Bool) (staged : ℕ)
    → result ≡ inside_block point p part begun staged
    → (set : FileSet) (old new : State) (item : TapeItem) (n : ℕ) → point ≡ saved new n
    → p ≡ old.position → IsAt set old → new.set_id ≡ set.set_id
    → new.file ≡ old.file → (d : Delivers set item old new) → d.part < part
    → part < length d.filled.parts
    → begun ≡ begun_behind old.begun (take (part - d.part) (drop d.part d.filled.parts))
    → staged ≡ weight_of (before set old.file old.position
    ++ take (part - d.part) (drop d.part d.filled.parts))
    → Stands set old.file result (before set old.file old.position
    ++ take (part - d.part) (drop d.part d.filled.parts))
point_stands point result p part begun staged is set old new item n point_is p_is at of_set same d
    lt le begun_is weighs =
    subst (λ z. Stands set old.file z
    (before set old.file old.position ++ take (part - d.part) (drop d.part d.filled.parts)))
    (sym (is ∙ (ap (λ z. inside_block z p part begun staged) point_is
    ∙ ap (λ z. inside_block (saved new n) z part begun staged) p_is)))
    (part_stands set old new item n part begun staged at of_set same d lt le begun_is weighs)
