-- Records of a shape.
use Rattle.std.specs.{Prelude.ℕ, Prelude.List, Prelude.length, List.AllByRecursion}
use Rattle.tape_blocks.specs.{declared.parts.Shape.Shape, Packing.HasRecordLength}

-- Each record has one of the lengths of the shape.
abbrev pub AreRecordsOf : Shape → List (List ℕ) → Type 0
AreRecordsOf shape records =
    AllByRecursion (λ r. HasRecordLength shape.format shape.rec_len (length r)) records
