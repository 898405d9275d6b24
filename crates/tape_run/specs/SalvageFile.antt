-- The records recovered of a file from readings of the volumes of a valid set, each section from
-- one reading.
use Rattle.std.specs.Prelude.{◌≡◌, ℕ, Bool, true, false, List, [], ◌∷◌, ◌++◌, length, Option, Some}
use Rattle.std.specs.{Prelude.None, List.AllByRecursion}
use Rattle.tape_image.specs.Tape.{TapeItem}
use Rattle.tape_blocks.specs.{Block.Portion, Spans.InOrder}
use Rattle.tape_set.specs.{Layout.Volume, Lawful.IsVolume, Lawful.FileForm}
use Rattle.tape_run.specs.SalvageWhole.{Blocks, IsBlock, all_parts, parts_with, whole_parts}
use Rattle.tape_run.specs.SalvageSections.{SectionRead, IsRead, IsOther, Labels, AreLabels, key_of}
use Rattle.tape_run.specs.{SalvageWhole.piece_after, declared.salvage.walk.OpenSection.OpenSection}
use Rattle.tape_run.specs.{SalvageSections.read_volume, SalvageSections.read_blocks, Noted.same_key}
use Rattle.tape_run.specs.{SalvageBlocks.Salvaged, SalvageBlocks.none_salvaged, SalvageGaps.data_in}
use Rattle.tape_run.specs.{SalvageRecords.nothing, declared.salvage.copies.SectionCopy.SectionCopy}
use Rattle.tape_run.specs.{SalvageImage.EndsData, declared.salvage.Content.TheVariants.Records}
use Rattle.tape_run.specs.declared.salvage.walk.Closing.{Closing}
use Rattle.tape_run.specs.declared.salvage.walk.Expected.TheVariants.{Outside}
use Rattle.tape_run.specs.SalvageTaking.{Taken, form_for, after_all}

-- a copy of a section that closes, found by its HDR1
abbrev pub closed_copy : ℕ → OpenSection → Closing → SectionCopy
closed_copy image section closed =
    record { image = image; section = section; closed = Some closed; skip = None }

-- The section was recovered from a reading of a volume of a valid set, on which it is once. It was
-- found as it is (`FindsSection`), and read up to the mark after its data (`ReadsSection`).
pub record IsTakenFrom (set_id : List ℕ) (volumes : ℕ) (known : Option FileForm) (form : FileForm)
    (eof : Bool) (t : Taken) (r : SectionRead) : Type 0 where
  pub image : ℕ
  pub section : OpenSection
  pub count : ℕ
  pub named : Bool
  pub items : List TapeItem
  pub is : t ≡ record {
    copy = Some (closed_copy image section (record { eof = eof; count = count; named = named }));
    items = Some items;
  }
  pub own : same_key (key_of set_id r) section.key ≡ true
  pub counted : section.blocks ≡ length r.blocks
  pub forms : form_for Records section.form known ≡ Some form
  pub volume : Volume
  pub labels : Labels
  pub before : List SectionRead
  pub rest : List SectionRead
  pub is_volume : IsVolume volume
  pub are_labels : AreLabels volume labels
  pub are_before : AllByRecursion (IsRead set_id volumes) before
  pub others_before : AllByRecursion (IsOther set_id section.key) before
  pub are_rest : AllByRecursion (IsRead set_id volumes) rest
  pub others_rest : AllByRecursion (IsOther set_id section.key) rest
  pub is_read : IsRead set_id volumes r
  pub unread : List TapeItem
  pub splits : read_volume labels (before ++ r ∷ rest) ≡ items ++ unread
  pub ends : EndsData (Outside 0) section.key items

-- The data items that the report on such a section is about are its blocks. So its gaps are exactly
-- the longest runs of its unreadable blocks (`GapsAreRuns`).
abbrev pub ReportsBlocks : Type 0
ReportsBlocks = (set_id : List ℕ) (volumes : ℕ) (known : Option FileForm) (form : FileForm)
    (eof : Bool) (t : Taken) (r : SectionRead)
    → (x : IsTakenFrom set_id volumes known form eof t r)
    → data_in x.section.key x.section.blocks (Outside 0) x.items ≡ read_blocks r.blocks

-- consecutive sections, none of which ends the file
abbrev pub AreTakenFrom : List ℕ → ℕ → Option FileForm → FileForm → List Taken → List SectionRead
    → Type 0
AreTakenFrom set_id volumes known form [] [] = Unit {0}
AreTakenFrom set_id volumes known form [] (r ∷ rs) = ⊥
AreTakenFrom set_id volumes known form (t ∷ ts) [] = ⊥
AreTakenFrom set_id volumes known form (t ∷ ts) (r ∷ rs) =
    IsTakenFrom set_id volumes known form false t r × AreTakenFrom set_id volumes known form ts rs

-- the blocks of consecutive sections
abbrev pub blocks_of : List SectionRead → Blocks
blocks_of [] = []
blocks_of (r ∷ rs) = r.blocks ++ blocks_of rs

-- the records recovered of a file from its sections
abbrev pub file_after : Option FileForm → List Taken → Salvaged
file_after known ts = after_all Records known ts none_salvaged

-- The records are those of the sections' blocks, one after another, and if nothing is missing,
-- every block was read.
abbrev pub RecoversBlocks : Type 0
RecoversBlocks = (set_id : List ℕ) (volumes : ℕ) (known : Option FileForm) (form : FileForm)
    (eof : Bool) (ts : List Taken) (t : Taken) (rs : List SectionRead) (r : SectionRead)
    → AreTakenFrom set_id volumes known form ts rs → IsTakenFrom set_id volumes known form eof t r
    → let g = file_after known (ts ++ t ∷ []) in
    let bs = blocks_of (rs ++ r ∷ []) in
    (g.piece.done ≡ (piece_after form nothing bs).done)
    × (g.missing ≡ false → AllByRecursion (λ b. b.0 ≡ true) bs)

-- The recovered records of the file are exactly those that lie entirely in blocks that were read.
-- If nothing is missing, all parts of the file were read.
abbrev pub RecoversFile : Type 0
RecoversFile = (set_id : List ℕ) (volumes : ℕ) (known : Option FileForm) (form : FileForm)
    (eof : Bool) (ts : List Taken) (t : Taken) (rs : List SectionRead) (r : SectionRead)
    → AreTakenFrom set_id volumes known form ts rs → IsTakenFrom set_id volumes known form eof t r
    → let g = file_after known (ts ++ t ∷ []) in
    let bs = blocks_of (rs ++ r ∷ []) in
    AllByRecursion (IsBlock form) bs → InOrder false (all_parts bs) false
    → (g.piece.done ≡ whole_parts (parts_with bs))
    × (g.missing ≡ false → g.piece.done ≡ all_parts bs)

-- No record is left out before the first block that was not read: the records so far, with the
-- unfinished one, are all parts of these blocks, and they remain a prefix whatever follows.
abbrev pub RecoversUpToGap : Type 0
RecoversUpToGap = (set_id : List ℕ) (volumes : ℕ) (known : Option FileForm) (form : FileForm)
    (eof end : Bool) (ts : List Taken) (t : Taken) (rs : List SectionRead) (r : SectionRead)
    (bs more : Blocks) → AreTakenFrom set_id volumes known form ts rs
    → IsTakenFrom set_id volumes known form eof t r → blocks_of (rs ++ r ∷ []) ≡ bs ++ more
    → AllByRecursion (IsBlock form) bs → AllByRecursion (λ b. b.0 ≡ true) bs
    → InOrder false (all_parts bs) end → let p = piece_after form nothing bs in
    (p.done ++ p.front ≡ all_parts bs) × ((rest : List Portion)
    × ((file_after known (ts ++ t ∷ [])).piece.done ≡ p.done ++ rest))
