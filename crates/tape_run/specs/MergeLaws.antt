-- Laws of readings, and of the tape that they make together.
use Rattle.std.specs.Prelude.{◌≡◌, ◌⊎◌, ◌<◌, ◌↔◌, ℕ, List, [], ◌∷◌, ◌++◌, length, max, slice_get}
use Rattle.std.specs.Prelude.{Some, None, ⊤}
use Rattle.tape_image.specs.{Tape.TapeItem, Tape.bad, Begins.Walks, Step.TakesEnd, Step.TakesFault}
use Rattle.tape_image.specs.Reader.{Reader, Status, going, ended, failed}
use Rattle.tape_run.specs.{MergeSteps.HasRead, Merging.IsReadFrom, Merging.IsMerged, Merging.Differ}

-- "Is a reading of" is an order of tapes: longer tapes, and tapes with fewer bad items, are
-- greater.
pub record ReadingsAreOrdered : Type 0 where
  pub itself : (t : List TapeItem) → IsReadFrom t t
  pub through : (r s t : List TapeItem) → IsReadFrom r s → IsReadFrom s t → IsReadFrom r t
  pub both : (r s : List TapeItem) → IsReadFrom r s → IsReadFrom s r → r ≡ s

-- Readings either have a merged tape, or differ: there is no tape of which all are readings.
pub record MakeOneOrDiffer : Type 0 where
  pub either : (rs : List (List TapeItem)) → ((m : List TapeItem) × IsMerged rs m) ⊎ Differ rs
  pub apart : (rs : List (List TapeItem)) (m : List TapeItem) → IsMerged rs m → Differ rs → ⊥
  pub one : (rs : List (List TapeItem)) (m n : List TapeItem)
      → IsMerged rs m → IsMerged rs n → m ≡ n

-- the length of the longest reading
abbrev pub longest : List (List TapeItem) → ℕ
longest [] = 0
longest (r ∷ rs) = max (length r) (longest rs)

-- The merged tape is as long as the longest of the readings.
abbrev pub AsLongAsLongest : Type 0
AsLongAsLongest = (rs : List (List TapeItem)) (m : List TapeItem) → IsMerged rs m
    → length m ≡ longest rs

-- in every reading that reaches the item, the item is bad
abbrev pub AllBadAt : ℕ → List (List TapeItem) → Type 0
AllBadAt j [] = ⊤
AllBadAt j (r ∷ rs) = ((slice_get r j ≡ None) ⊎ (slice_get r j ≡ Some bad)) × AllBadAt j rs

-- An item of the merged tape is bad exactly if it is bad in every reading that reaches it.
abbrev pub BadWhereAllBad : Type 0
BadWhereAllBad = (rs : List (List TapeItem)) (m : List TapeItem) (j : ℕ) → IsMerged rs m
    → j < length m → (slice_get m j ≡ Some bad) ↔ AllBadAt j rs

-- each element is a prefix of the element at the same place in the other list
abbrev pub AreFronts : List (List TapeItem) → List (List TapeItem) → Type 0
AreFronts [] [] = ⊤
AreFronts (r ∷ rs) (s ∷ ss) = ((more : List TapeItem) × (s ≡ r ++ more)) × AreFronts rs ss
AreFronts _ _ = ⊥

-- If prefixes of readings differ, so do the readings.
abbrev pub DifferForGood : Type 0
DifferForGood = (fronts readings : List (List TapeItem)) → AreFronts fronts readings
    → Differ fronts → Differ readings

-- the reading is in the list
abbrev pub IsOneOf : List TapeItem → List (List TapeItem) → Type 0
IsOneOf r [] = ⊥
IsOneOf r (s ∷ ss) = (r ≡ s) ⊎ IsOneOf r ss

-- Neither the order of the readings nor how often one is listed matters.
abbrev pub OrderDoesNotMatter : Type 0
OrderDoesNotMatter = (rs ss : List (List TapeItem)) (m : List TapeItem)
    → ((r : List TapeItem) → IsOneOf r rs → IsOneOf r ss)
    → ((r : List TapeItem) → IsOneOf r ss → IsOneOf r rs) → IsMerged rs m → IsMerged ss m

-- The meaning of a reader's status for the items that bytes at offset p begin with, up to offset q;
-- the bytes after them are left.
abbrev pub TakesAs : ℕ → Status → List TapeItem → ℕ → List ℕ → List ℕ → Type 0
TakesAs p going items q bytes left = Walks p bytes items q left
TakesAs p (ended ending) items q bytes left = TakesEnd p items ending q bytes left
TakesAs p (failed fault) items q bytes left = TakesFault p items fault bytes left

-- The items that a reader returned of an image are those that its bytes begin with, up to the end
-- of the medium or to a fault of the image if it stopped. If the device failed, they are those of
-- the bytes that it returned. The reader has the rest.
abbrev pub ReadersGiveImages : Type 0
ReadersGiveImages = (first now : Reader) (items : List TapeItem) (bytes : List ℕ)
    → HasRead first now items → first.status ≡ going → first.left ≡ Some bytes
    → (left : List ℕ) × (now.left ≡ Some left)
    × TakesAs first.place now.status items now.place bytes left
