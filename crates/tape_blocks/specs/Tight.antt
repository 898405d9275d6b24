-- Blocks that contain records without unused space.
use Rattle.std.specs.Prelude.{◌≡◌, ◌≢◌, ℕ, ◌+◌, ◌≤◌, true, false, List, [], ◌∷◌, length, map, None}
use Rattle.std.specs.List.{flat_map, AllByRecursion}
use Rattle.tape_label.specs.declared.values.Format.TheVariants.{Spanned}
use Rattle.tape_blocks.specs.{declared.parts.Shape.Shape, declared.parts.Span.TheVariants.Whole}
use Rattle.tape_blocks.specs.{Block.Portion, Block.Holds, Spans.InOrder, Spans.leaves, Spans.join}
use Rattle.tape_blocks.specs.Packing.{written, IsFull}

-- a block with its parts
pub record Filled : Type 0 where
  pub bytes : List ℕ
  pub parts : List Portion

-- the parts of the blocks, in order
abbrev pub parts_of_all : List Filled → List Portion
parts_of_all blocks = flat_map (λ b. b.parts) blocks

-- the texts of the blocks
abbrev pub bytes_of_all : List Filled → List (List ℕ)
bytes_of_all blocks = map (λ b. b.bytes) blocks

-- ---- each block

-- a segment of format S at offset `at` of its block: 6 bytes are free there, it fills the block if
-- it leaves its record unfinished, and it is empty only if its record is empty
pub record IsSegment (block_len at : ℕ) (p : Portion) : Type 0 where
  pub room : at + 6 ≤ block_len
  pub fills : leaves p.span ≡ true → at + (5 + length p.bytes) ≡ block_len
  pub empty : p.bytes ≡ [] → p.span ≡ Whole

-- the same for consecutive segments
abbrev pub AreSegments : ℕ → ℕ → List Portion → Type 0
AreSegments block_len at [] = Unit {0}
AreSegments block_len at (p ∷ ps) =
    IsSegment block_len at p × AreSegments block_len (at + (5 + length p.bytes)) ps

-- a block as written: it contains its parts, at least one, is within the block length, and has the
-- spaces of the offset and the padding of the shape
pub record IsWritten (shape : Shape) (b : Filled) : Type 0 where
  pub some : b.parts ≢ []
  pub text : b.bytes ≡ written shape b.parts
  pub holds : Holds shape.format shape.rec_len shape.offset b.bytes b.parts
  pub within : length b.bytes ≤ shape.block_len
  pub segments : shape.format ≡ Spanned → AreSegments shape.block_len shape.offset b.parts

-- ---- each block and the next

-- the relation R holds between each element and the next
abbrev pub Chain : {A : Type 0} → (A → A → Type 0) → List A → Type 0
Chain R [] = Unit {0}
Chain R (x ∷ []) = Unit {0}
Chain R (x ∷ y ∷ xs) = R x y × Chain R (y ∷ xs)

-- the length of the first part's content, or n if there are no parts
abbrev pub first_len : List Portion → ℕ → ℕ
first_len [] n = n
first_len (p ∷ _) n = length p.bytes

-- The block was closed because the first part of the next block did not fit, or in format S because
-- fewer than 6 bytes were free.
abbrev pub IsDue : Shape → Filled → Filled → Type 0
IsDue shape b next = IsFull shape b.parts (first_len next.parts 0)

-- ---- all blocks

-- The parts of the blocks are in span order and join to the given records, and no block was closed
-- that had room.
pub record IsTight (shape : Shape) (records : List (List ℕ)) (blocks : List Filled) : Type 0 where
  pub joins : join (parts_of_all blocks) ≡ record { records = records; rest = None }
  pub order : InOrder false (parts_of_all blocks) false
  pub each : AllByRecursion (IsWritten shape) blocks
  pub closed : Chain (IsDue shape) blocks

-- Blocks with the given texts contain the records without unused space.
abbrev pub Packs : Shape → List (List ℕ) → List (List ℕ) → Type 0
Packs shape records texts =
    (blocks : List Filled) × (bytes_of_all blocks ≡ texts) × IsTight shape records blocks
