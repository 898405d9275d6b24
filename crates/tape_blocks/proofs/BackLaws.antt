-- Blocks into which records were packed contain those records.
use Rattle.std.proofs.Common.{ℕ, List, [], ◌∷◌}
use Rattle.std.specs.List.{AllByRecursion}
use Rattle.tape_blocks.specs.Tight.{Filled, IsWritten, Packs}
use Rattle.tape_blocks.specs.{declared.parts.Shape.Shape, Laws.AllHold, Laws.HoldRecords}

all_hold : (shape : Shape) (blocks : List Filled) → AllByRecursion (IsWritten shape) blocks
    → AllHold shape blocks
all_hold shape [] all = tt
all_hold shape (b ∷ bs) all = (all.0.holds, all_hold shape bs all.1)

-- Blocks that are packed without unused space contain the records.
pub packs_hold : (shape : Shape) (records texts : List (List ℕ)) → Packs shape records texts
    → HoldRecords shape texts records
packs_hold shape records texts packs =
    (packs.0, packs.1, all_hold shape packs.0 packs.2.each, packs.2.order, packs.2.joins)
