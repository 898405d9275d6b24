-- The file sets that the writer lays out: blocks as full as the rules of packing require, and
-- volumes exactly as full as their capacity allows.
use Rattle.std.specs.Prelude.{◌≡◌, ℕ, ◌+◌, ◌==◌, nat_le, ◌≤◌, Bool, true, false, if◌then◌else◌}
use Rattle.std.specs.Prelude.{List, [], ◌∷◌, ◌++◌, length, MatchBool}
use Rattle.std.specs.List.{AllByRecursion}
use Rattle.tape_image.specs.Tape.{block}
use Rattle.tape_label.specs.{declared.values.Kind.Kind, declared.values.Head2.Head2, Head2.IsHead2}
use Rattle.tape_label.specs.declared.values.Kind.TheVariants as kinds
use Rattle.tape_blocks.specs.{declared.parts.Shape.Shape, Tight.Filled}
use Rattle.tape_blocks.specs.Packing.{IsWritable, HasRecordLength}
use Rattle.tape_blocks.specs.Tight as packing
use Rattle.tape_set.specs.Layout.{FileSet, Section, Placed, Volume, sections, up_to_data}
use Rattle.tape_set.specs.Sizes.{item_size, entries_size, headers_size, file_end_size}
use Rattle.tape_set.specs.{Before.blocks_of_all, Layout.data_group, Layout.ends_file}
use Rattle.tape_set.specs.Sizes.{volume_end_size}

-- ---- labels and blocks of a file

-- the fields in the second labels of a file of the given shape
abbrev pub second_of : Shape → Head2
second_of shape = record {
  format = shape.format;
  block_len = shape.block_len;
  rec_len = shape.rec_len;
  offset = shape.offset;
}

-- EOF2 if the section ends its file, and EOV2 if the file continues
abbrev pub second_trailer : Section → Kind
second_trailer s = if ends_file s then kinds.Eof2 else kinds.Eov2

-- the least capacity of the volumes on which a file of the given shape is written
abbrev pub least_capacity : Shape → ℕ
least_capacity shape = 1024 + shape.block_len

-- The section's labels are two headers and two trailers, and both second labels state the shape.
pub record HasPlainLabels (shape : Shape) (s : Section) : Type 0 where
  pub hdr2 : IsHead2 s.hdr2 kinds.Hdr2 (second_of shape)
  pub headers : s.headers ≡ []
  pub second : List ℕ
  pub trailers : s.trailers ≡ second ∷ []
  pub trailer2 : IsHead2 second (second_trailer s) (second_of shape)

-- The file's shape can be written, and the capacity has room for its labels and a block; its labels
-- state the shape, and its blocks contain records of the shape's lengths, packed without unused
-- space.
pub record IsTightFile (capacity : ℕ) (shape : Shape) (f : List Section) : Type 0 where
  pub writable : IsWritable shape
  pub room : least_capacity shape ≤ capacity
  pub labels : AllByRecursion (HasPlainLabels shape) f
  pub records : List (List ℕ)
  pub lengths : AllByRecursion (λ r. HasRecordLength shape.format shape.rec_len (length r)) records
  pub packed : packing.IsTight shape records (blocks_of_all f)

-- Each file is packed without unused space in its shape; there is one shape for each file.
abbrev pub AreTightFiles : ℕ → List Shape → List (List Section) → Type 0
AreTightFiles capacity [] [] = Unit {0}
AreTightFiles capacity (shape ∷ shapes) (f ∷ fs) =
    IsTightFile capacity shape f × AreTightFiles capacity shapes fs
AreTightFiles capacity _ _ = ⊥

-- ---- the change of volumes

-- whether a block of `size` bytes is written when `used` bytes of the volume are used: the end of a
-- volume must fit after it
abbrev pub takes_block : ℕ → ℕ → ℕ → Bool
takes_block capacity used size = nat_le (used + size + volume_end_size) capacity

-- whether the end of a file is written: the headers of another file and the end of a volume must
-- fit after it
abbrev pub takes_end : ℕ → ℕ → Bool
takes_end capacity used = nat_le (used + file_end_size + (headers_size + volume_end_size)) capacity

-- whether the next block is written, or the end of the file if there are no more blocks
abbrev pub takes_next : ℕ → ℕ → List Filled → Bool
takes_next capacity used [] = takes_end capacity used
takes_next capacity used (b ∷ bs) = takes_block capacity used (item_size (block b.bytes))

-- the size of the contents of a section's volume before the section's closing mark, for the
-- sections `past` before it in the order of the set
abbrev pub used_before : List Volume → List Placed → Section → ℕ
used_before volumes past s = entries_size (up_to_data volumes past s ++ data_group s.blocks)

-- The end of a volume fits after the data of a section; if the section ends its file, its volume
-- has room for the end of the file.
pub record IsTightEnd (volumes : List Volume) (capacity : ℕ) (past : List Placed) (x : Placed)
    : Type 0 where
  pub volume_end : used_before volumes past x.section + volume_end_size ≤ capacity
  pub file_end : ends_file x.section ≡ true
      → takes_end capacity (used_before volumes past x.section) ≡ true

-- The section y after x belongs to the same file only if the volume of x had no room for y's first
-- block or, if y has no blocks, for the end of the file; the first section of the next file is on
-- the volume of x.
abbrev pub IsTightChange : List Volume → ℕ → List Placed → Placed → Placed → Type 0
IsTightChange volumes capacity past x y =
    MatchBool (x.file == y.file)
    (takes_next capacity (used_before volumes past x.section) y.section.blocks ≡ false)
    (y.section.volume ≡ x.section.volume)

-- ---- sets

-- each element, with the elements before it
abbrev pub EachBehind : {A : Type 0} → (List A → A → Type 0) → List A → List A → Type 0
EachBehind R past [] = Unit {0}
EachBehind R past (x ∷ xs) = R past x × EachBehind R (past ++ x ∷ []) xs

-- each element and the next, with the elements before them
abbrev pub ChainBehind : {A : Type 0} → (List A → A → A → Type 0) → List A → List A → Type 0
ChainBehind R past [] = Unit {0}
ChainBehind R past (x ∷ []) = Unit {0}
ChainBehind R past (x ∷ y ∷ xs) = R past x y × ChainBehind R (past ++ x ∷ []) (y ∷ xs)

-- the volume of the last section, or 0 if there are no sections
abbrev pub last_volume : List Placed → ℕ
last_volume [] = 0
last_volume (x ∷ []) = x.section.volume
last_volume (x ∷ y ∷ xs) = last_volume (y ∷ xs)

-- A set without unused space, for a capacity and one shape for each file. It is used together with
-- `IsLawful`: no volume has a further volume label, the last section is on the last volume, the
-- files have no unused space, and files and volumes end where the rule for the change of volumes
-- says. The characters of labels are only determined at the positions that are read.
pub record IsTight (set : FileSet) (capacity : ℕ) (shapes : List Shape) : Type 0 where
  pub plain : AllByRecursion (λ v. v.labels ≡ []) set.volumes
  pub last : last_volume (sections set) ≡ length set.volumes
  pub files : AreTightFiles capacity shapes set.files
  pub ends : EachBehind (IsTightEnd set.volumes capacity) [] (sections set)
  pub changes : ChainBehind (IsTightChange set.volumes capacity) [] (sections set)
