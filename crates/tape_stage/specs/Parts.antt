-- Frames of parts, and the first parts up to a given weight; frames in a list of bytes.
use Rattle.std.proofs.Common.{◌≡◌, ℕ, ◌≤◌, List, [], ◌∷◌, ◌++◌, length, w32, ◌+◌, ◌-◌, take, drop}
use Rattle.std.specs.{List.flat_map, Int.to_be_bytes}
use Rattle.tape_blocks.specs.{Block.Portion, Block.indicator, Packing.longest_block}
use Rattle.tape_blocks.specs.declared.parts.Span.{Span}
use Rattle.tape_core.specs.Stands.{weight_of}

-- a frame: the span's indicator, the length in four bytes, greatest first, and the content
abbrev pub frame : Portion → List ℕ
frame part = indicator part.span ∷ to_be_bytes w32 (length part.bytes) ++ part.bytes

-- the frames of the parts, one after another
abbrev pub frames : List Portion → List ℕ
frames parts = flat_map frame parts

-- the maximum number of bytes of a part
abbrev pub longest_part : ℕ
longest_part = longest_block

-- each part is short enough
abbrev pub AllShort : List Portion → Type 0
AllShort [] = Unit {0}
AllShort (part ∷ parts) = (length part.bytes ≤ longest_part) × AllShort parts

-- `front` are the first parts, with the given weight
pub record IsFront (weight : ℕ) (front parts : List Portion) : Type 0 where
  pub rest : List Portion
  pub whole : parts ≡ front ++ rest
  pub weighs : weight_of front ≡ weight

-- The bytes from `place` to `end` are the frames of the given parts.
pub record AheadIn (place end : ℕ) (bytes : List ℕ) (parts : List Portion) : Type 0 where
  pub low : place ≤ end
  pub high : end ≤ length bytes
  pub frames_are : take (end - place) (drop place bytes) ≡ frames parts
  pub short : AllShort parts

-- A part's frame begins at `place`, and ends at or before `end`.
pub record IsFrameAt (place end : ℕ) (bytes : List ℕ) (span : Span)
    (content : List ℕ) : Type 0 where
  pub room : place + (5 + length content) ≤ end
  pub header : take 5 (drop place bytes) ≡ indicator span ∷ to_be_bytes w32 (length content)
  pub content_is : take (length content) (drop (place + 5) bytes) ≡ content
  pub short : length content ≤ longest_part

-- No frame of at most 99,999 bytes begins at `place` and ends at or before `end`.
abbrev pub NoFrameAt : ℕ → ℕ → List ℕ → Type 0
NoFrameAt place end bytes = (span : Span) (content : List ℕ)
    → IsFrameAt place end bytes span content → ⊥
