-- The state after some offers to a packer, if each closed block was taken: an invariant for a
-- caller's loop.
use Rattle.std.specs.Prelude.{◌≡◌, ℕ, ◌<◌, true, false, List, [], ◌∷◌, ◌++◌, length, Option, None}
use Rattle.std.specs.List.{AllByRecursion}
use Rattle.tape_label.specs.declared.values.Format.TheVariants.{Spanned}
use Rattle.tape_blocks.specs.declared.parts.Shape.{Shape}
use Rattle.tape_blocks.specs.Spans.{InOrder, content_after, join}
use Rattle.tape_blocks.specs.Packing.{Packing, HasRecordLength, IsFull}
use Rattle.tape_blocks.specs.Tight.{Filled, IsWritten, AreSegments, first_len, parts_of_all}

-- Each block was closed because it had no room for the content after it; the last block is followed
-- by content of n bytes.
abbrev pub AreClosed : Shape → List Filled → ℕ → Type 0
AreClosed shape [] n = Unit {0}
AreClosed shape (b ∷ []) n = IsFull shape b.parts n
AreClosed shape (b ∷ c ∷ bs) n =
    IsFull shape b.parts (first_len c.parts 0) × AreClosed shape (c ∷ bs) n

-- The blocks `taken` were taken, and `p` has the current block. The records `records` have ended,
-- `front` of the next record is packed, and n bytes of it are still to be offered.
pub record Run (taken : List Filled) (p : Packing) (records : List (List ℕ))
    (front : Option (List ℕ)) (n : ℕ) : Type 0 where
  pub closed : AreClosed p.shape taken (first_len p.parts n)
  pub each : AllByRecursion (IsWritten p.shape) taken
  pub segments : p.shape.format ≡ Spanned → AreSegments p.shape.block_len p.shape.offset p.parts
  pub joins : join (parts_of_all taken ++ p.parts) ≡ record { records = records; rest = front }
  pub order : InOrder false (parts_of_all taken ++ p.parts) p.begun
  pub opened : p.closed ≡ false
  pub more : p.begun ≡ true → 0 < n
  pub ended : p.begun ≡ false → front ≡ None

-- `Run` between two records, whatever follows.
abbrev pub RunOf : List Filled → Packing → List (List ℕ) → Type 0
RunOf taken p records = (n : ℕ) → Run taken p records None n

-- The next offer is `rest`, the rest of the record `whole`.
pub record Going (taken : List Filled) (p : Packing) (records : List (List ℕ))
    (whole rest : List ℕ) : Type 0 where
  pub front : Option (List ℕ)
  pub run : Run taken p records front (length rest)
  pub content : content_after front rest ≡ whole
  pub length_is : p.begun ≡ true → HasRecordLength p.shape.format p.shape.rec_len (length whole)
