-- Laws about the places at which items begin again.
use Rattle.std.specs.Prelude.{◌≡◌, ℕ, ◌≤◌, List, ◌++◌, length, drop, Some, None}
use Rattle.tape_image.specs.{Tape.TapeItem, declared.item.Ending.Ending, Resync.items_again}
use Rattle.tape_image.specs.Spelling.{IsSpelling, EndsHere}

-- no place is sought where an item or an erase gap begins
abbrev pub NoneAtItems : Type 0
NoneAtItems =
    (s rest : List ℕ) (given : List TapeItem) → IsSpelling s given → items_again (s ++ rest) ≡ None

-- nor where the medium ends: so none is in an image that can be read to its end
abbrev pub NoneAtEnds : Type 0
NoneAtEnds =
    (ending : Ending) (rest : List ℕ) → EndsHere ending rest → items_again rest ≡ None

-- bytes that begin with an item or an erase gap
pub record BeginsItem (xs : List ℕ) : Type 0 where
  pub bytes : List ℕ
  pub given : List TapeItem
  pub rest : List ℕ
  pub spelled : IsSpelling bytes given
  pub whole : xs ≡ bytes ++ rest

-- each place is farther on, within the bytes, and begins an item
abbrev pub PlacesBeginItems : Type 0
PlacesBeginItems =
    (xs : List ℕ) (n : ℕ) → items_again xs ≡ Some n
    → (1 ≤ n) × (n ≤ length xs) × BeginsItem (drop n xs)
