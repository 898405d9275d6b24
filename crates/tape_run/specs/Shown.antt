-- The proof in an image's items that a section is complete.
use Rattle.std.specs.Prelude.{◌≡◌, ℕ, List, ◌∷◌, ◌++◌, length, map}
use Rattle.std.specs.List.{AllByRecursion}
use Rattle.tape_image.specs.Tape.{TapeItem, block, mark}
use Rattle.tape_label.specs.declared.values.Kind.TheVariants as kinds
use Rattle.tape_label.specs.declared.values.{Vol1.Vol1, Head1.Head1, Trail1.Trail1}
use Rattle.tape_label.specs.{Kinds.HasKind, Vol1.IsVol1, Head1.IsHead1, Trail1.IsTrail1}
use Rattle.tape_run.specs.{declared.section.SectionKey.SectionKey, declared.section.Entry.Entry}
use Rattle.tape_run.specs.{declared.section.SectionState.TheVariants.Good, Passing.met_in}
use Rattle.tape_set.specs.Lawful.{label_count}

-- the first item is the volume label of the volume with this identifier
pub record BeginsVolume (items : List TapeItem) (volume : List ℕ) : Type 0 where
  pub bytes : List ℕ
  pub more : List TapeItem
  pub first : items ≡ block bytes ∷ more
  pub label : Vol1
  pub is : IsVol1 bytes label
  pub named : label.volume ≡ volume

-- a first header label with the section's numbers
pub record HeadsSection (bytes : List ℕ) (key : SectionKey) : Type 0 where
  pub label : Head1
  pub is : IsHead1 bytes label
  pub set_id : label.set_id ≡ key.set_id
  pub file : label.sequence ≡ key.file
  pub sect : label.sect ≡ key.sect

-- a first trailer label with the section's numbers, this count of blocks, and this kind
pub record EndsSection (bytes : List ℕ) (key : SectionKey) (blocks : ℕ) (entry : Entry) : Type 0
  where
    pub label : Trail1
    pub is : IsTrail1 bytes label
    pub file : label.head.sequence ≡ key.file
    pub sect : label.head.sect ≡ key.sect
    pub count : label.blocks ≡ label_count blocks
    pub kind : label.eof ≡ entry.eof

-- The items, which begin a volume, contain in this order: a first header label with the section's
-- numbers, a block that is a second header label, further blocks, a tape mark, data blocks, a tape
-- mark, and a trailer label with the same numbers that counts these data blocks. The entry has
-- their number, the trailer's kind and the volume's identifier.
pub record Shown (items : List TapeItem) (key : SectionKey) (entry : Entry) : Type 0 where
  pub volume : BeginsVolume items entry.volume
  pub before : List TapeItem
  pub hdr1 : List ℕ
  pub hdr2 : List ℕ
  pub headers : List (List ℕ)
  pub content : List (List ℕ)
  pub trailer : List ℕ
  pub after : List TapeItem
  pub stands : items ≡ before ++ block hdr1 ∷ block hdr2 ∷ map block headers
      ++ mark ∷ map block content ++ mark ∷ block trailer ∷ after
  pub head : HeadsSection hdr1 key
  pub second : HasKind hdr2 kinds.Hdr2
  pub ends : EndsSection trailer key (length content) entry
  pub blocks : entry.blocks ≡ length content

-- Each section that the items report as good is shown by them.
abbrev pub GoodAreShown : Type 0
GoodAreShown = (items : List TapeItem)
    → AllByRecursion (λ t. t.1.state ≡ Good → Shown items t.0 t.1) (met_in items)
