-- What is found on images of a valid set's volumes, of which any items may be unreadable or missing
-- at the end, also labels and tape marks.
use Rattle.std.specs.Prelude.{◌≡◌, ◌≢◌, ◌⊎◌, ℕ, List, ◌++◌, length, map, Some, None, Ok}
use Rattle.std.specs.List.{AllByRecursion}
use Rattle.tape_image.specs.Tape.{TapeItem, block, bad, mark}
use Rattle.tape_image.specs.Begins.{Stop, Begins}
use Rattle.tape_label.specs.{declared.values.Head1.Head1, Reading.head1_at}
use Rattle.tape_set.specs.Layout.{FileSet, Placed, items, on, sections}
use Rattle.tape_set.specs.{Lawful.IsLawful, Lawful.label_count, Laws.StandsIn}
use Rattle.tape_set.specs.Reading.{Reading, IsReadingOf, as_read}
use Rattle.tape_run.specs.{declared.salvage.copies.SectionCopy.SectionCopy, Checked.Reel}
use Rattle.tape_run.specs.{declared.salvage.walk.Closing.Closing, SalvageWalk.sections_in}
use Rattle.tape_run.specs.{SalvageWhole.Blocks, SalvageClosed.digest_items, Salvaging.FindsOnAll}
use Rattle.tape_run.specs.SalvageSections.{read_blocks, filled_of}
use Rattle.tape_run.specs.SalvageDamaged.{AnySection, IsPlain, IsPlainSection, IsFoundExactly}

-- No block of the section other than its HDR1 and its trailer label can be mistaken for one of
-- these. (Its HDR2 never can.)
pub record IsPlainAt (set_id : List ℕ) (p : Placed) : Type 0 where
  pub headers : AllByRecursion (IsPlain set_id) p.section.headers
  pub blocks : AllByRecursion (λ b. IsPlain set_id b.bytes) p.section.blocks
  pub trailers : AllByRecursion (IsPlain set_id) p.section.trailers

abbrev pub IsPlainSet : FileSet → Type 0
IsPlainSet set = AllByRecursion (IsPlainAt set.set_id) (sections set)

-- the sections on volume k, of which any items were read
pub record AreAnyRead (set : FileSet) (k : ℕ) (rs : List AnySection) : Type 0 where
  pub each : AllByRecursion (IsPlainSection set.set_id (length set.volumes)) rs
  pub all : map (λ (r : AnySection). r.placed) rs ≡ on k (sections set)

-- In the items of a reading of a volume, or a prefix of them, each section of the set that is found
-- by its HDR1 and closes is one of the volume's sections, and has exactly its blocks.
abbrev pub ClosedOfSetAreExact : Type 0
ClosedOfSetAreExact = (set : FileSet) (r : Reading) (its more : List TapeItem) → IsLawful set
    → IsReadingOf set r → IsPlainSet set → its ++ more ≡ as_read (items set r.volume) r.good
    → (rs : List AnySection) × AreAnyRead set r.volume rs
    × AllByRecursion (IsFoundExactly set.set_id rs its) (sections_in its)

-- ---- the images of a call

-- the item does not read as an HDR1 of the set
abbrev pub IsOtherHead : List ℕ → TapeItem → Type 0
IsOtherHead set_id (block b) = (h : Head1) → head1_at b ≡ Ok h → h.set_id ≢ set_id
IsOtherHead set_id bad = Unit {0}
IsOtherHead set_id mark = Unit {0}

-- the items of an image are those of a reading of a volume, or none of them is an HDR1 of the set
abbrev pub IsAnyCopy : FileSet → List TapeItem → Type 0
IsAnyCopy set xs =
    ((r : Reading) × IsReadingOf set r × (xs ≡ as_read (items set r.volume) r.good))
    ⊎ AllByRecursion (IsOtherHead set.set_id) xs

-- An image could not be opened, or its bytes are known and begin with such items.
abbrev pub IsAnyImage : FileSet → Reel → Type 0
IsAnyImage set None = Unit {0}
IsAnyImage set (Some None) = ⊥
IsAnyImage set (Some (Some bytes)) = (xs : List TapeItem) × (end : ℕ) × (stop : Stop)
    × Begins 0 bytes xs end stop × IsAnyCopy set xs

-- A copy is a section of the set: it has its numbers, its data items are its blocks, some of which
-- may be unreadable, and its trailer label counts them.
pub record IsExactCopy (set : FileSet) (c : SectionCopy) (k : Closing) : Type 0 where
  pub placed : Placed
  pub among : StandsIn (sections set) placed
  pub file : c.section.key.file ≡ placed.file
  pub sect : c.section.key.sect ≡ placed.sect
  pub items : Blocks
  pub filled : filled_of items ≡ placed.section.blocks
  pub blocks : c.section.blocks ≡ length placed.section.blocks
  pub digest : c.section.digest ≡ digest_items 0 (read_blocks items)
  pub count : k.count ≡ label_count (length placed.section.blocks)

-- the copy is exact, if it was found by its HDR1 and closes
abbrev pub IsExactIf : FileSet → SectionCopy → Type 0
IsExactIf set c = (k : Closing) → c.closed ≡ Some k → c.section.after ≡ None → IsExactCopy set c k

-- Of the copies that `salvage_to` finds (`FindsAll`) on such images, in any order and whether or
-- not a reader failed, each one that was found by its HDR1 and closes is exact.
abbrev pub FoundAreExact : Type 0
FoundAreExact = (set : FileSet) (file n : ℕ) (reels : List Reel) (old copies : List SectionCopy)
    (text : List ℕ) → IsLawful set → IsPlainSet set → AllByRecursion (IsAnyImage set) reels
    → FindsOnAll set.set_id file n reels old copies text → AllByRecursion (IsExactIf set) old
    → AllByRecursion (IsExactIf set) copies
