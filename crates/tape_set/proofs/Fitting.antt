-- The positions of a valid set fit the digits of a checkpoint.
use Rattle.std.proofs.Common.{◌≡◌, ◌<◌, ◌≤◌, ◌⊎◌, ℕ, zero, suc, List, [], ◌∷◌, ◌++◌, length, drop}
use Rattle.std.proofs.Common.{Option, Some, None, refl, ap, subst, inl, inr, append_assoc, arith}
use Rattle.std.proofs.Common.{length-append}
use Rattle.std.specs.{Prelude.map, Prelude.slice_get, List.AllByRecursion}
use Rattle.tape_image.specs.Tape.{IsTapeItem}
use Rattle.tape_label.specs.declared.values.Format.{Format}
use Rattle.tape_label.specs.declared.values.Format.TheVariants.{Fixed, Counted, Spanned}
use Rattle.tape_label.specs.declared.values.Format.TheVariants.{Undefined, Variable}
use Rattle.tape_blocks.specs.Block.{HoldsUnits, own_len, own_offset}
use Rattle.tape_blocks.specs.Block.{Portion, IsUnit, IsPadding, Holds, spelling, spellings}
use Rattle.tape_blocks.specs.Tight.{Filled}
use Rattle.tape_blocks.proofs.UnitLaws.{length-spelling}
use Rattle.tape_set.specs.Layout.{FileSet, Entry, sections, header_group, data_group, trailer_group}
use Rattle.tape_set.specs.{declared.position.Position.Position, Layout.item_of, Laws.FitsDigits}
use Rattle.tape_set.specs.declared.position.Position.TheVariants.{Awaits, Finished}
use Rattle.tape_set.specs.Lawful.{IsLawful, IsSection, FileForm, TellsForm}
use Rattle.tape_set.specs.Before.{IsIn, parts_of}
use Rattle.tape_set.proofs.Everywhere.{every_at, every_stands}
use Rattle.tape_set.proofs.Numbering.{placed, section_stands}
use Rattle.tape_set.proofs.Forms.{blocks_held, form_told, all_four_digits}

-- ---- a block has no more parts than bytes

-- a unit has at least one byte: only units of format F have no head, and their records are longer
-- than the padding
unit_some : (format : Format) (rec_len : ℕ) (p : Portion) (padding : List ℕ)
    → IsUnit format rec_len p → IsPadding format rec_len padding → 1 ≤ length (spelling format p)
unit_some Fixed rec_len p padding h pad = omega (arith, h.1, pad.1)
unit_some Counted rec_len p padding h pad = omega (arith, length-spelling Counted p)
unit_some Spanned rec_len p padding h pad = omega (arith, length-spelling Spanned p)
unit_some Undefined rec_len p padding h pad = omega (arith, h.1)
unit_some Variable rec_len p padding h pad = omega (arith, length-spelling Variable p)

units_few : (format : Format) (rec_len : ℕ) (ps : List Portion) (padding : List ℕ)
    → AllByRecursion (IsUnit format rec_len) ps → IsPadding format rec_len padding
    → length ps ≤ length (spellings format ps)
units_few format rec_len [] padding h pad = omega arith
units_few format rec_len (p ∷ ps) padding h pad =
    grind (arith, unit_some, length-append, units_few format rec_len ps padding h.1 pad)

drop_fewer : (n : ℕ) (xs : List ℕ) → length (drop n xs) ≤ length xs
drop_fewer zero xs = omega arith
drop_fewer (suc n) [] = omega arith
drop_fewer (suc n) (x ∷ xs) = grind (arith, drop_fewer n xs)

units_fit : (format : Format) (rec_len offset : ℕ) (bytes : List ℕ) (ps : List Portion)
    → HoldsUnits format rec_len offset bytes ps → length ps ≤ length bytes
units_fit format rec_len offset bytes ps (padding, begins, pad) =
    let few : length ps ≤ length (spellings format ps) =
    units_few format rec_len ps padding begins.units pad in
    let body : length (drop offset bytes) ≡ length (spellings format ps ++ padding) =
    ap (λ v. length v) begins.body in
    omega (arith, body, length-append (spellings format ps) padding, drop_fewer offset bytes)

pub parts_few : (format : Format) (rec_len offset : ℕ) (bytes : List ℕ) (ps : List Portion)
    → Holds format rec_len offset bytes ps → length ps ≤ length bytes
parts_few format rec_len offset bytes ps holds =
    units_fit format (own_len format rec_len offset bytes) (own_offset format offset bytes) bytes ps
    holds

-- ---- the blocks of a section are no longer than those of an image

entries_of : (xs ys : List Entry) → AllByRecursion IsTapeItem (map item_of (xs ++ ys))
    → AllByRecursion IsTapeItem (map item_of ys)
entries_of [] ys h = h
entries_of (x ∷ xs) ys h = entries_of xs ys h.1

block_sized : (blocks : List Filled) (after : List Entry) (n : ℕ) (b : Filled)
    → AllByRecursion IsTapeItem (map item_of (data_group blocks ++ after))
    → slice_get blocks n ≡ Some b → length b.bytes ≤ 99999
block_sized [] after n b h e = absurd (cc)
block_sized (x ∷ xs) after zero b h e = grind arith
block_sized (x ∷ xs) after (suc n) b h e = block_sized xs after n b h.1 e

-- ---- the numbers of a position

pub fits_digits : (set : FileSet) → IsLawful set → (file : ℕ) (p : Position) → IsIn set file p
    → FitsDigits p
fits_digits set lawful file Finished h = omega arith
fits_digits set lawful file (Awaits sect b k) (s, found, le, part) = record {
  sect = (every_stands (λ x. ((1 ≤ x.file) × (x.file ≤ 9999)) × ((1 ≤ x.sect) × (x.sect ≤ 9999)))
      (sections set) (placed file sect s) (all_four_digits set lawful)
      (section_stands set file sect s found)).1.1;
  block = omega (arith, le, is.few);
  part = few part;
}
  where
    is : IsSection set.set_id (length set.volumes) (placed file sect s)
    is = every_stands (IsSection set.set_id (length set.volumes)) (sections set)
        (placed file sect s) lawful.each (section_stands set file sect s found)

    told : (form : FileForm) × TellsForm form s
    told = form_told set file lawful sect s found

    in_block : (o : Option Filled) → slice_get s.blocks b ≡ o → k < length (parts_of o) → k ≤ 99998
    in_block None e lt = absurd (omega arith)
    in_block (Some d) e lt =
        let held : Holds told.0.format told.0.rec_len told.0.offset d.bytes d.parts =
        every_at (λ x. Holds told.0.format told.0.rec_len told.0.offset x.bytes x.parts) s.blocks b
        d (blocks_held set file lawful sect s told.0 found told.1) e in
        let few : length d.parts ≤ length d.bytes =
        parts_few told.0.format told.0.rec_len told.0.offset d.bytes d.parts held in
        let behind : List Entry = data_group s.blocks ++ trailer_group s in
        let all : AllByRecursion IsTapeItem (map item_of (header_group s ++ behind)) =
        subst (λ v. AllByRecursion IsTapeItem (map item_of v))
        (append_assoc (header_group s) (data_group s.blocks) (trailer_group s)) is.sized in
        let sized : length d.bytes ≤ 99999 =
        block_sized s.blocks (trailer_group s) b d (entries_of (header_group s) behind all) e in
        omega (arith, lt, few, sized)

    few : (k ≡ 0) ⊎ (k < length (parts_of (slice_get s.blocks b))) → k ≤ 99998
    few (inl e) = omega (arith, e)
    few (inr lt) = in_block (slice_get s.blocks b) refl lt
