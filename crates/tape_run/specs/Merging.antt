-- Readings of one tape, and the least tape of which all of them are readings.
use Rattle.std.specs.Prelude.{◌≡◌, ◌⊎◌, List, [], ◌∷◌, ⊤}
use Rattle.tape_image.specs.Tape.{TapeItem, bad}

-- the item t of a tape was read as x: as a bad item, or unchanged
abbrev pub IsReadAs : TapeItem → TapeItem → Type 0
IsReadAs x t = (x ≡ bad) ⊎ (x ≡ t)

-- The items are a reading of the tape: they are its first items, each read as a bad item or
-- unchanged. Then the reading was cut, or the tape ends.
abbrev pub IsReadFrom : List TapeItem → List TapeItem → Type 0
IsReadFrom [] tape = ⊤
IsReadFrom (x ∷ xs) [] = ⊥
IsReadFrom (x ∷ xs) (t ∷ ts) = IsReadAs x t × IsReadFrom xs ts

-- each of these is a reading of the tape
abbrev pub AreReadFrom : List (List TapeItem) → List TapeItem → Type 0
AreReadFrom [] tape = ⊤
AreReadFrom (r ∷ rs) tape = IsReadFrom r tape × AreReadFrom rs tape

-- The merged tape: the least tape of which every reading is a reading. That is, it is itself a
-- reading of every such tape.
pub record IsMerged (readings : List (List TapeItem)) (merged : List TapeItem) : Type 0 where
  pub all : AreReadFrom readings merged
  pub least : (tape : List TapeItem) → AreReadFrom readings tape → IsReadFrom merged tape

-- there is no tape of which all of them are readings
abbrev pub Differ : List (List TapeItem) → Type 0
Differ readings = (tape : List TapeItem) → AreReadFrom readings tape → ⊥
