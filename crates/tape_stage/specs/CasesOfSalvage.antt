-- Examples for the definitions about the remains of a damaged stage. They are also part of the
-- contract of the call `laws::cases`.
use Rattle.std.specs.Prelude.{◌≡◌, ◌-◌, ◌+◌, ◌≤◌, ◌<◌, min, ℕ, List, [], ◌∷◌, ◌++◌, length, take}
use Rattle.std.specs.Prelude.{drop, replicate, Option, Some, None, false, true}
use Rattle.tape_blocks.specs.{declared.parts.Span.TheVariants.Whole, Block.Portion}
use Rattle.tape_core.specs.Point.{Point}
use Rattle.tape_stage.specs.Salvaged.{FramedTo, Remains, RemainsNone, RemainsOnce}
use Rattle.tape_stage.specs.Staged.{Staged, best, slot_at}
use Rattle.tape_stage.specs.{Found.IsBadPlace, Found.IsFaultOf, Parts.NoFrameAt, Parts.frames}
use Rattle.tape_stage.specs.declared.stage.StageFault.TheVariants.{NoPoint, BadFrame}

-- a whole record of one byte, A
abbrev pub one_part : Portion
one_part = record { span = Whole; bytes = 65 ∷ [] }

-- a frame without its last byte
abbrev pub cut_frame : List ℕ
cut_frame = replicate 256 32 ++ 48 ∷ 0 ∷ 0 ∷ 0 ∷ 1 ∷ []

-- a valid frame, followed by a frame with an invalid digit
abbrev pub frame_and_none : List ℕ
frame_and_none = replicate 256 32 ++ 48 ∷ 0 ∷ 0 ∷ 0 ∷ 1 ∷ 65 ∷ 52 ∷ 0 ∷ 0 ∷ 0 ∷ 1 ∷ 66 ∷ []

pub record CasesOfSalvage : Type 0 where
  -- no part remains of a frame without its last byte, and the frame is not intact
  pub cut_off : FramedTo 6 (Some 256) [] cut_frame
  pub not_whole : (parts : List Portion) → FramedTo 6 None parts cut_frame → ⊥
  -- of two frames, the second with an invalid digit, the first remains
  pub one_remains : FramedTo 12 (Some 262) (one_part ∷ []) frame_and_none
  -- nothing is damaged if the frames should end after the first
  pub no_break : FramedTo 6 None (one_part ∷ []) frame_and_none
  pub not_broken : (parts : List Portion) → FramedTo 6 (Some 262) parts frame_and_none → ⊥
  -- all staged parts remain, and if nothing is damaged the remaining parts are staged
  pub all_remains : (bytes : List ℕ) (n : ℕ) (point : Point) (parts : List Portion)
      → Staged bytes n point parts → Remains bytes n point None parts
  pub all_staged : (bytes : List ℕ) (n : ℕ) (point : Point) (parts : List Portion)
      → Remains bytes n point None parts → Staged bytes n point parts
  -- the current slot counts the parts that remain before the damage, and the slot is intact
  pub before_break : (bytes : List ℕ) (n : ℕ) (point : Point) (place : ℕ) (parts : List Portion)
      → Remains bytes n point (Some place) parts
      → (best (slot_at false bytes) (slot_at true bytes) ≡ Some (n, point)) × (256 ≤ place)
      × (place < 256 + point.staged) × (take (place - 256) (drop 256 bytes) ≡ frames parts)
      × NoFrameAt place (min (256 + point.staged) (length bytes)) bytes
  -- if something remains, it is false that nothing remains
  pub none_remains : (bytes : List ℕ) (n : ℕ) (point : Point) (broken : Option ℕ)
      (parts : List Portion) → RemainsNone bytes → Remains bytes n point broken parts → ⊥
  -- NoPoint says that nothing remains, BadFrame where the first bad frame is
  pub none_said : (bytes : List ℕ) → IsFaultOf bytes NoPoint → RemainsNone bytes
  pub bad_said : (bytes : List ℕ) (place : ℕ) → IsFaultOf bytes (BadFrame place)
      → IsBadPlace bytes place
  -- the remains are unique
  pub once : (bytes : List ℕ) (n m : ℕ) (point next : Point) (broken other : Option ℕ)
      (parts more : List Portion) → RemainsOnce bytes → Remains bytes n point broken parts
      → Remains bytes m next other more
      → (n ≡ m) × (point ≡ next) × (broken ≡ other) × (parts ≡ more)
