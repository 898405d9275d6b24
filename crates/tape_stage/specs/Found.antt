-- The contents of the slots of a stage file.
use Rattle.std.specs.Prelude.{◌≡◌, ◌==◌, ℕ, not, List, Some}
use Rattle.tape_blocks.specs.Block.{Portion}
use Rattle.tape_stage.specs.{Staged.gate_at, Staged.slot_at, Staged.Loses, Salvaged.Remains}
use Rattle.tape_stage.specs.declared.stage.StageFault.TheVariants.{NoPoint, BadFrame}
use Rattle.tape_stage.specs.{Salvaged.RemainsNone, declared.stage.Found.Found}
use Rattle.tape_stage.specs.declared.stage.StageFault.{StageFault}
use Rattle.tape_core.specs.Point.{Point}

-- the slot found is the current one, and `other_open` is the state of the other slot's gate
pub record IsFound (found : Found) (bytes : List ℕ) : Type 0 where
  pub slot : slot_at found.in_second bytes ≡ Some (found.generation, found.point)
  pub other : Loses found.in_second found.generation (slot_at (not found.in_second) bytes)
  pub gate : found.other_open ≡ (gate_at (not found.in_second) bytes == 79)

-- the parts remain that precede the offset `place`, where there is no valid frame
abbrev pub IsBadPlace : List ℕ → ℕ → Type 0
IsBadPlace bytes place = (g : ℕ) × (point : Point) × (parts : List Portion)
    × Remains bytes g point (Some place) parts

-- What a fault of opening says about the bytes: NoPoint, that no slot is valid; BadFrame, where the
-- first bad frame is.
abbrev pub IsFaultOf : List ℕ → StageFault → Type 0
IsFaultOf bytes NoPoint = RemainsNone bytes
IsFaultOf bytes (BadFrame place) = IsBadPlace bytes place
IsFaultOf bytes _ = Unit {0}
