-- Packing records into blocks: the shapes that can be written, the text of a block, and the effect
-- of each call of a packer.
use Rattle.std.specs.Prelude.{◌≡◌, ◌≢◌, ℕ, ◌+◌, ◌-◌, ◌<◌, ◌≤◌, ◌⊎◌, Bool, true, false}
use Rattle.std.specs.Prelude.{if◌then◌else◌, List, [], ◌∷◌, ◌++◌, length, take, replicate, max}
use Rattle.tape_label.specs.declared.values.Format.{Format}
use Rattle.tape_label.specs.declared.values.Format.TheVariants.{Fixed, Counted, Spanned}
use Rattle.tape_label.specs.declared.values.Format.TheVariants.{Undefined, Variable}
use Rattle.tape_blocks.specs.{declared.parts.Shape.Shape, declared.offer.Offer.Offer, Spans.span_of}
use Rattle.tape_blocks.specs.declared.offer.Offer.TheVariants.{Taken, BlockReady}
use Rattle.tape_blocks.specs.Block.{Portion, spellings, Holds}

-- ---- shapes and records that can be written

-- the greatest block length that HDR2 can express, in five digits
abbrev pub longest_block : ℕ
longest_block = 99999

-- the conditions on record length, block length, offset and full padding in each format; files of
-- formats U and V are not written
abbrev pub HasWritableRecords : Format → ℕ → ℕ → ℕ → Bool → Type 0
HasWritableRecords Fixed rec_len block_len offset pad_full =
    (18 ≤ rec_len) × (offset + rec_len ≤ block_len) × (pad_full ≡ false)
HasWritableRecords Counted rec_len block_len offset pad_full =
    (4 ≤ rec_len) × (rec_len ≤ 9999) × (offset + rec_len ≤ block_len)
HasWritableRecords Spanned rec_len block_len offset pad_full =
    (rec_len ≡ 0) × (block_len ≤ 9999) × (offset + 6 ≤ block_len) × (pad_full ≡ false)
HasWritableRecords Undefined rec_len block_len offset pad_full = ⊥
HasWritableRecords Variable rec_len block_len offset pad_full = ⊥

-- the shapes that can be written
pub record IsWritable (shape : Shape) : Type 0 where
  pub least : 18 ≤ shape.block_len
  pub most : shape.block_len ≤ longest_block
  pub front : shape.offset ≤ 99
  pub units : HasWritableRecords shape.format shape.rec_len shape.block_len shape.offset
      shape.pad_full

-- the lengths of the records of a shape; in format D the record length includes the four digits
abbrev pub HasRecordLength : Format → ℕ → ℕ → Type 0
HasRecordLength Fixed rec_len n = n ≡ rec_len
HasRecordLength Counted rec_len n = n + 4 ≤ rec_len
HasRecordLength Spanned rec_len n = n ≤ 4294967295
HasRecordLength Undefined rec_len n = ⊥
HasRecordLength Variable rec_len n = ⊥

-- ---- the text of a block

-- the length of a block with the given parts before it is padded
abbrev pub size_of : Shape → List Portion → ℕ
size_of shape parts = shape.offset + length (spellings shape.format parts)

-- the length of a block after padding; n is its length before padding
abbrev pub padded_by : Format → Bool → ℕ → ℕ → ℕ
padded_by Fixed pad_full block_len n = n
padded_by Counted pad_full block_len n = if pad_full then block_len else max n 18
padded_by Spanned pad_full block_len n = max n 18
padded_by Undefined pad_full block_len n = n
padded_by Variable pad_full block_len n = n

-- the length of a block of n bytes after padding
abbrev pub padded_len : Shape → ℕ → ℕ
padded_len shape n = padded_by shape.format shape.pad_full shape.block_len n

-- the block with the given parts: the spaces of the offset, the units, and circumflexes up to the
-- padded length
abbrev pub written : Shape → List Portion → List ℕ
written shape parts =
    (replicate shape.offset 32 ++ spellings shape.format parts)
    ++ replicate (padded_len shape (size_of shape parts) - size_of shape parts) 94

-- ---- when a block is closed

-- the number of free bytes that the next part needs, if n bytes of its record are left: in format S
-- a segment needs 6 free bytes
abbrev pub least_room : Format → ℕ → ℕ
least_room Fixed n = n
least_room Counted n = 4 + n
least_room Spanned n = 6
least_room Undefined n = n
least_room Variable n = 4 + n

-- After the given parts there is room for the next part, if n bytes of its record are left.
abbrev pub HasRoom : Shape → List Portion → ℕ → Type 0
HasRoom shape parts n = size_of shape parts + least_room shape.format n ≤ shape.block_len

-- There is no room for the next part.
abbrev pub IsFull : Shape → List Portion → ℕ → Type 0
IsFull shape parts n = shape.block_len < size_of shape parts + least_room shape.format n

-- ---- a packer

-- the current block: its parts, whether the record of the last part is unfinished, and whether the
-- block is closed
pub record Packing : Type 0 where
  pub shape : Shape
  pub parts : List Portion
  pub begun : Bool
  pub closed : Bool

-- a packer whose current block has the given parts
abbrev pub the_packing : Shape → List Portion → Bool → Bool → Packing
the_packing shape parts begun closed =
    record { shape = shape; parts = parts; begun = begun; closed = closed }

-- the packer after one more part; `goes_on` says whether the record continues, which closes the
-- block
abbrev pub with_part : Packing → Bool → List ℕ → Packing
with_part p goes_on bytes = record {
  shape = p.shape;
  parts = p.parts ++ record { span = span_of p.begun goes_on; bytes = bytes } ∷ [];
  begun = goes_on;
  closed = goes_on;
}

-- The block was closed already: nothing is accepted, and nothing changes.
pub record StaysClosed (old : Packing) (n : ℕ) (new : Packing) : Type 0 where
  pub closed : old.closed ≡ true
  pub none : n ≡ 0
  pub same : new ≡ old

-- The block is full: nothing is accepted, and the block is closed.
pub record Closes (old : Packing) (rest : List ℕ) (n : ℕ) (new : Packing) : Type 0 where
  pub opened : old.closed ≡ false
  pub none : n ≡ 0
  pub full : IsFull old.shape old.parts (length rest)
  pub same : new ≡ record { shape = old.shape; parts = old.parts; begun = old.begun; closed = true }

-- A segment that does not end its record fills the block.
pub record Fills (old : Packing) (rest : List ℕ) (n : ℕ) (new : Packing) : Type 0 where
  pub opened : old.closed ≡ false
  pub spanned : old.shape.format ≡ Spanned
  pub room : HasRoom old.shape old.parts (length rest)
  pub some : 0 < n
  pub more : n < length rest
  pub part : new ≡ with_part old true (take n rest)
  pub filled : size_of new.shape new.parts ≡ new.shape.block_len

-- The rest of the record ends in the current block.
pub record Ends (old : Packing) (rest : List ℕ) (new : Packing) : Type 0 where
  pub opened : old.closed ≡ false
  pub room : HasRoom old.shape old.parts (length rest)
  pub part : new ≡ with_part old false rest
  pub within : size_of new.shape new.parts ≤ new.shape.block_len

-- the effect of offering the rest of a record; a block that is ready contains a part
abbrev pub Offers : Packing → List ℕ → Offer → Packing → Type 0
Offers old rest Taken new = Ends old rest new
Offers old rest (BlockReady n) new =
    (new.parts ≢ []) × (StaysClosed old n new ⊎ (Closes old rest n new ⊎ Fills old rest n new))

-- A record begins here, and its length is not one of the lengths of the shape.
pub record IsRefused (p : Packing) (rest : List ℕ) : Type 0 where
  pub opened : p.closed ≡ false
  pub begins : p.begun ≡ false
  pub length_is : HasRecordLength p.shape.format p.shape.rec_len (length rest) → ⊥

-- if a record begins here, its length is one of the lengths of the shape
abbrev pub IsJudged : Packing → List ℕ → Type 0
IsJudged p rest =
    p.closed ≡ false → p.begun ≡ false
    → HasRecordLength p.shape.format p.shape.rec_len (length rest)

-- the packer after its block was taken: it has no parts, and an unfinished record continues
abbrev pub emptied : Packing → Packing
emptied p = record { shape = p.shape; parts = []; begun = p.begun; closed = false }

-- The text is the current block: it contains the packer's parts, has at least one byte, and is
-- within the block length.
pub record Given (p : Packing) (text : List ℕ) : Type 0 where
  pub some : p.parts ≢ []
  pub some_bytes : 0 < length text
  pub text_is : text ≡ written p.shape p.parts
  pub holds : Holds p.shape.format p.shape.rec_len p.shape.offset text p.parts
  pub within : length text ≤ p.shape.block_len
