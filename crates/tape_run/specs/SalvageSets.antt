-- The records recovered of a file of a valid set from images of the set's volumes, which are
-- complete copies of which only data blocks were unreadable.
use Rattle.std.specs.Prelude.{◌≡◌, ◌≢◌, ◌⊎◌, ℕ, ◌+◌, true, false, List, [], ◌∷◌, ◌++◌, Option, Some}
use Rattle.std.specs.Prelude.{None, slice_get, length, ◌*◌, ◌-◌, ◌≤◌, ◌==◌, if◌then◌else◌}
use Rattle.std.specs.List.{AllByRecursion}
use Rattle.tape_image.specs.Tape.{TapeItem}
use Rattle.tape_blocks.specs.Block.{Portion}
use Rattle.tape_set.specs.Layout.{FileSet, Section, Placed, items, entries, numbered, file_of}
use Rattle.tape_set.specs.{Layout.section_of, Lawful.IsLawful, Lawful.FileForm, Lawful.HasForm}
use Rattle.tape_set.specs.{Before.section_parts, Reach.passes, Laws.StandsIn}
use Rattle.tape_set.specs.Reading.{Reading, IsReadingOf, as_read}
use Rattle.tape_run.specs.SalvageWhole.{Blocks, parts_with, whole_parts, piece_after, all_parts}
use Rattle.tape_run.specs.{declared.salvage.Content.TheVariants.Records, SalvageWalk.sections_in}
use Rattle.tape_run.specs.{declared.salvage.copies.SectionCopy.SectionCopy, SalvageRecords.nothing}
use Rattle.tape_run.specs.{SalvageImage.EndsData, SalvageReadings.IsReadVolume}
use Rattle.tape_run.specs.SalvageCopies.{of_file, start_of, rank}
use Rattle.tape_run.specs.SalvageBlocks.{Salvaged, none_salvaged}
use Rattle.tape_run.specs.SalvageChoice.{firsts, IsBest, form_of_file}
use Rattle.tape_run.specs.SalvageTaking.{Taken, AreAllSections, after_file}
use Rattle.tape_run.specs.SalvageWhole.{not_read}
use Rattle.tape_run.specs.SalvageSections.{SectionRead, filled_of}

-- ---- images

-- the items of a reading
abbrev pub items_read : FileSet → Reading → List TapeItem
items_read set r = as_read (items set r.volume) r.good

-- A complete reading of a volume, in which all labels and tape marks were readable.
pub record IsComplete (set : FileSet) (r : Reading) : Type 0 where
  pub reading : IsReadingOf set r
  pub labels : passes r.good (entries set r.volume) ≡ true

-- An image is such a reading, or `None`: it could not be opened, or it has no section of the file.
abbrev pub IsCompleteOr : FileSet → Option Reading → Type 0
IsCompleteOr set None = Unit {0}
IsCompleteOr set (Some r) = IsComplete set r

-- the copies of the file's sections on images, of which the first one has number n
abbrev pub copies_on : FileSet → ℕ → ℕ → List (Option Reading) → List SectionCopy
copies_on set file n [] = []
copies_on set file n (None ∷ rs) = copies_on set file (n + 1) rs
copies_on set file n (Some r ∷ rs) =
    of_file set.set_id file n (sections_in (items_read set r)) ++ copies_on set file (n + 1) rs

-- one of the images is a reading of this volume
abbrev pub HasVolume : List (Option Reading) → ℕ → Type 0
HasVolume rs k = (r : Reading) × StandsIn rs (Some r) × (r.volume ≡ k)

-- ---- the second reading

-- The copy's image was read again up to the mark after the section's data.
pub record IsReadAgain (set : FileSet) (rs : List (Option Reading)) (c : SectionCopy)
    (items : Option (List TapeItem)) : Type 0 where
  pub read : List TapeItem
  pub is : items ≡ Some read
  pub ends : EndsData (start_of c) c.section.key read
  pub reading : Reading
  pub image : slice_get rs c.image ≡ Some (Some reading)
  pub unread : List TapeItem
  pub splits : items_read set reading ≡ read ++ unread

-- the same for a section that may be on no image
abbrev pub IsReadAgainIf : FileSet → List (Option Reading) → Option SectionCopy
    → Option (List TapeItem) → Type 0
IsReadAgainIf set rs None items = Unit {0}
IsReadAgainIf set rs (Some c) items = IsReadAgain set rs c items

-- sections from this number on were read from their best copies, one after another
abbrev pub AreReadAgain : FileSet → List (Option Reading) → List SectionCopy → ℕ → List Taken
    → Type 0
AreReadAgain set rs copies sect [] = Unit {0}
AreReadAgain set rs copies sect (t ∷ ts) = IsBest (firsts sect None copies) t.copy
    × IsReadAgainIf set rs t.copy t.items × AreReadAgain set rs copies (sect + 1) ts

-- ---- the blocks that are recovered

-- These are the blocks of a section, each with whether this reading of its volume has it.
pub record HasBlocks (set : FileSet) (r : Reading) (p : Placed) (bs : Blocks) : Type 0 where
  pub volume : IsReadVolume set r.volume (items_read set r)
  pub section : SectionRead
  pub among : StandsIn volume.reads section
  pub is : section.placed ≡ p
  pub blocks : bs ≡ section.blocks

-- None of the images is a reading of the section's volume, so all of its blocks are missing.
pub record IsOnNone (rs : List (Option Reading)) (p : Placed) (bs : Blocks) : Type 0 where
  pub none : HasVolume rs p.section.volume → ⊥
  pub blocks : filled_of bs ≡ p.section.blocks
  pub missing : AllByRecursion (λ b. b.0 ≡ false) bs

-- the rank of a copy that closes and of which these blocks were read: copies of which all were read
-- come first, then those of which more were read
abbrev pub rank_of : Blocks → ℕ
rank_of bs = (if not_read bs == 0 then 8589934592 else 0) + (2 * (length bs - not_read bs) + 1)

-- A copy is a section that an image has, and its rank is that of the blocks that the image has.
pub record IsRanked (set : FileSet) (rs : List (Option Reading)) (c : SectionCopy) : Type 0 where
  pub reading : Reading
  pub image : slice_get rs c.image ≡ Some (Some reading)
  pub placed : Placed
  pub sect : c.section.key.sect ≡ placed.sect
  pub blocks : Blocks
  pub had : HasBlocks set reading placed blocks
  pub rank_is : rank c ≡ rank_of blocks

-- the blocks that the image of the section's best copy has; none if no image has the section
abbrev pub IsHad : FileSet → List (Option Reading) → List SectionCopy → Placed → Blocks → Type 0
IsHad set rs copies p bs = ((c : SectionCopy) × (r : Reading)
    × IsBest (firsts p.sect None copies) (Some c) × (slice_get rs c.image ≡ Some (Some r))
    × HasBlocks set r p bs × (rank c ≡ rank_of bs)) ⊎ IsOnNone rs p bs

-- the same for sections, one after another
abbrev pub AreHad : FileSet → List (Option Reading) → List SectionCopy → List Placed
    → List Blocks → Type 0
AreHad set rs copies [] [] = Unit {0}
AreHad set rs copies [] (b ∷ bs) = ⊥
AreHad set rs copies (p ∷ ps) [] = ⊥
AreHad set rs copies (p ∷ ps) (b ∷ bs) = IsHad set rs copies p b × AreHad set rs copies ps bs

-- the blocks of sections, one after another
abbrev pub joined : List Blocks → Blocks
joined [] = []
joined (b ∷ bs) = b ++ joined bs

-- What was recovered of a file: of each section the blocks that the image of its best copy has, and
-- of these blocks exactly the records that lie entirely in them. Up to the first missing block no
-- record is left out. If nothing is missing, it is the file.
pub record IsRecovered (set : FileSet) (file : ℕ) (f : List Section) (rs : List (Option Reading))
    (copies : List SectionCopy) (g : Salvaged) : Type 0 where
  pub form : FileForm
  pub is_form : AllByRecursion (HasForm form) f
  pub ranked : AllByRecursion (IsRanked set rs) copies
  pub sections : List Blocks
  pub had : AreHad set rs copies (numbered file 1 f) sections
  pub whole : AllByRecursion (λ b. b.0 ≡ false → b.1.parts ≢ []) (joined sections)
      → g.piece.done ≡ whole_parts (parts_with (joined sections))
  pub up_to_gap : (bs more : Blocks) → joined sections ≡ bs ++ more
      → AllByRecursion (λ b. b.0 ≡ true) bs → let p = piece_after form nothing bs in
      (p.done ++ p.front ≡ all_parts bs)
      × ((rest : List Portion) × (g.piece.done ≡ p.done ++ rest))
  pub complete : g.missing ≡ false
      → AllByRecursion (λ b. b.0 ≡ true) (joined sections) × (g.piece.done ≡ section_parts f)

-- No image has more blocks of a section than the image of its best copy: where this one misses
-- blocks, each of the others misses at least as many.
abbrev pub NoneHasMore : Type 0
NoneHasMore = (set : FileSet) (file sect : ℕ) (w : Section) (rs : List (Option Reading))
    (c : SectionCopy) (r q : Reading) (n : ℕ) (bs cs : Blocks)
    → IsLawful set → AllByRecursion (IsCompleteOr set) rs → section_of set file sect ≡ Some w
    → IsBest (firsts sect None (copies_on set file 0 rs)) (Some c)
    → slice_get rs c.image ≡ Some (Some r)
    → HasBlocks set r (record { file = file; sect = sect; section = w }) bs
    → slice_get rs n ≡ Some (Some q)
    → HasBlocks set q (record { file = file; sect = sect; section = w }) cs
    → not_read bs ≤ not_read cs

-- From such images of a valid set, in any order and with repeats, each file is recovered like this.
-- A section without blocks has to be on one of the images.
abbrev pub RecoversSet : Type 0
RecoversSet = (set : FileSet) (file : ℕ) (f : List Section) (rs : List (Option Reading))
    (copies : List SectionCopy) (taken : List Taken)
    → IsLawful set → file_of set file ≡ Some f → AllByRecursion (IsCompleteOr set) rs
    → AllByRecursion (λ p. p.section.blocks ≡ [] → HasVolume rs p.section.volume)
    (numbered file 1 f)
    → copies ≡ copies_on set file 0 rs → AreReadAgain set rs copies 1 taken
    → AreAllSections Records (form_of_file copies) copies taken
    → IsRecovered set file f rs copies (after_file Records copies taken none_salvaged)
