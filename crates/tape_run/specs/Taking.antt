-- The effect of a reel reader on the items of a reel.
use Rattle.std.specs.Prelude.{ℕ, Bool, List, Option, Some, None, Result, Ok, Err}
use Rattle.tape_blocks.specs.Block.{Portion}
use Rattle.tape_image.specs.declared.item.ImageFault.{ImageFault}
use Rattle.tape_image.specs.{Tape.TapeItem, Begins.Stop, Begins.Begins}
use Rattle.tape_core.specs.{State.State, Place.rest_of}
use Rattle.tape_run.specs.{Given.IsGiven, ByTable.IsLed, ByTable.IsCutAt}

-- the result for an image, from what its reader returned: an item, or none at the end of the medium
-- or a fault
abbrev pub came_of : Result (Option TapeItem) ImageFault → Option TapeItem
came_of (Ok came) = came
came_of (Err fault) = None

-- the fault that was returned
abbrev pub fault_of : Result (Option TapeItem) ImageFault → Option ImageFault
fault_of (Ok came) = None
fault_of (Err fault) = Some fault

-- The parts that the table delivers for the items of an image that a reader returned were put.
pub record ReadsImage (wide failed : Bool) (old new : State) (held now : List Portion)
    (left : Option (List ℕ)) (bytes : List ℕ) : Type 0 where
  pub given : List ℕ
  pub is_given : IsGiven failed bytes left given
  pub table : (xs : List TapeItem) (end : ℕ) (stop : Stop) → Begins 0 given xs end stop
      → IsLed wide xs old (rest_of new) held now

-- The refused part is one of those that the table delivers.
abbrev pub CutsTable : Bool → State → State → List Portion → List Portion → List ℕ → Type 0
CutsTable wide old new held now bytes = (xs : List TapeItem) (end : ℕ) (stop : Stop)
    → Begins 0 bytes xs end stop → IsCutAt wide xs old new held now
