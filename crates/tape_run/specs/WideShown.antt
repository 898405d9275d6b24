-- The proof in an image's items that a section is complete, in the wider reading: HDR2 may be
-- absent.
use Rattle.std.specs.Prelude.{◌≡◌, ◌⊎◌, ⊤, true, ℕ, List, [], ◌∷◌, ◌++◌, length, map}
use Rattle.tape_image.specs.Tape.{TapeItem, block, mark}
use Rattle.tape_label.specs.declared.values.Kind.TheVariants as kinds
use Rattle.tape_label.specs.{declared.values.Vol1.Vol1, Vol1.IsVol1}
use Rattle.tape_label.specs.{Kinds.HasKind, WideHead2.is_further_header}
use Rattle.tape_run.specs.{declared.section.SectionKey.SectionKey, declared.section.Entry.Entry}
use Rattle.tape_run.specs.Shown.{BeginsVolume, HeadsSection, EndsSection}
use Rattle.tape_run.specs.{Onward.no_volume}

-- the block is a second header label, or a further one: then there is no second one
abbrev pub IsSecond : List ℕ → Type 0
IsSecond b = HasKind b kinds.Hdr2 ⊎ (is_further_header b ≡ true)

-- the labels that follow HDR1: the first of them is such a block, if there are any
abbrev pub AreHeaders : List (List ℕ) → Type 0
AreHeaders [] = ⊤
AreHeaders (b ∷ bs) = IsSecond b

-- the first item is not a volume label, and this stands for the volume's identifier
pub record BeginsOtherwise (items : List TapeItem) (volume : List ℕ) : Type 0 where
  pub item : TapeItem
  pub more : List TapeItem
  pub first : items ≡ item ∷ more
  pub other : (bytes : List ℕ) (label : Vol1) → item ≡ block bytes → IsVol1 bytes label → ⊥
  pub named : volume ≡ no_volume

-- the first item is the volume label of the volume with this identifier, or no volume label
abbrev pub NamesVolume : List TapeItem → List ℕ → Type 0
NamesVolume items volume = BeginsVolume items volume ⊎ BeginsOtherwise items volume

-- As `Shown`, but HDR2 may be absent: the items, which begin a volume, contain in this order: a
-- first header label with the section's numbers, further header labels, a tape mark, data blocks, a
-- tape mark, and a trailer label with the same numbers that counts these data blocks. The entry
-- has their number, the trailer's kind and the volume's identifier. The volume may lack its label.
pub record WideShown (items : List TapeItem) (key : SectionKey) (entry : Entry) : Type 0 where
  pub volume : NamesVolume items entry.volume
  pub before : List TapeItem
  pub hdr1 : List ℕ
  pub headers : List (List ℕ)
  pub content : List (List ℕ)
  pub trailer : List ℕ
  pub after : List TapeItem
  pub stands : items ≡ before ++ block hdr1 ∷ map block headers
      ++ mark ∷ map block content ++ mark ∷ block trailer ∷ after
  pub head : HeadsSection hdr1 key
  pub second : AreHeaders headers
  pub ends : EndsSection trailer key (length content) entry
  pub blocks : entry.blocks ≡ length content
