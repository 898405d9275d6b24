-- Examples for the listing with offsets: a worked one, in which each number is the one in the
-- image's bytes.
use Rattle.std.specs.Prelude.{◌≡◌, ℕ, ◌+◌, ◌-◌, Bool, true, List, [], ◌∷◌, ◌++◌, length, map, codes}
use Rattle.std.specs.{Prelude.Option, Io.KnownBytes.Appends, Io.KnownBytes.Keeps}
use Rattle.tape_image.specs.{declared.item.Ending.TheVariants.Marked, Begins.Walks, Reader.IfKnown}
use Rattle.tape_image.specs.{declared.item.ImageCause.TheVariants.OutOfMemory, Written.AppendsFront}
use Rattle.tape_image.specs.declared.item.ImageFault.{ImageFault}
use Rattle.tape_image.specs.Tape.{TapeItem, block, bad, mark}
use Rattle.tape_image.specs.Step.{TakesItem, TakesEnd, TakesFault}
use Rattle.tape_run.specs.Placed.{PlacedItem, Places, item_size, placed_lines, placed_end}
use Rattle.tape_run.specs.{declared.fault.ListFault.TheVariants.WriteFailed, Listed.FitsCause}
use Rattle.tape_run.specs.Placed.{PlacesToEnd, PlacesToFault, StopsPlacing, FitsPlaces}

-- a gap, a mark, a gap and a bad block of nine bytes, and an end-of-medium marker
abbrev pub some_items : List PlacedItem
some_items = record { item = mark; from = 0; behind = 8 }
    ∷ record { item = bad; from = 8; behind = 30 } ∷ []

-- a worked listing
abbrev pub PlacesAreWorked : Type 0
PlacesAreWorked = placed_lines true 1 some_items ++ placed_end true Marked 34
    ≡ codes "4 4 000001 MARK\n8 22 000002 BAD\n30 4 END MARKED\n"

-- the items at these places are those that the bytes begin with
abbrev pub PlacedAreFirst : Type 0
PlacedAreFirst = (items : List PlacedItem) (p q : ℕ) (xs ys : List ℕ) → Places p items q xs ys
    → Walks p xs (map (λ x. x.item) items) q ys

-- bytes encode this number of items in only one way
abbrev pub OnePlaces : Type 0
OnePlaces = (items others : List PlacedItem) (p q r : ℕ) (xs ys zs : List ℕ)
    → Places p items q xs ys → Places p others r xs zs → length items ≡ length others
    → items ≡ others

-- the offset of a block or a mark is that of its first word, after the gaps before it
abbrev pub PlaceIsOfWord : TapeItem → Type 0
PlaceIsOfWord item = (p q : ℕ) (xs ys : List ℕ) (t : TakesItem p item q xs ys)
    → q - item_size (record { item = item; from = p; behind = q }) ≡ p + length t.gaps

-- the items of these
abbrev pub items_of : List PlacedItem → List TapeItem
items_of items = map (λ x. x.item) items

-- the outcome of a run that reached the end of the medium: it lists the same items as `list`, each
-- in its line
abbrev pub PlacesEndSays : Bool → Option (List ℕ) → Option (List ℕ) → List ℕ → List ℕ → Type 0
PlacesEndSays offsets old new bytes left = (l : PlacesToEnd offsets old new bytes left)
    → TakesEnd 0 (items_of l.items) l.ending l.place bytes left
    × Appends old new (placed_lines offsets 1 l.items ++ placed_end offsets l.ending l.place)

-- the outcome of a run that found a fault of the image
abbrev pub PlacesFaultSays : Bool → ImageFault → Option (List ℕ) → Option (List ℕ) → List ℕ
    → List ℕ → Type 0
PlacesFaultSays offsets fault old new bytes left =
    (l : PlacesToFault offsets fault old new bytes left)
    → TakesFault 0 (items_of l.items) fault bytes left
    × Appends old new (placed_lines offsets 1 l.items)

-- the outcome of a run whose write failed
abbrev pub PlacesStopSays : Bool → Option (List ℕ) → Option (List ℕ) → List ℕ → List ℕ → Type 0
PlacesStopSays offsets old new bytes left = StopsPlacing offsets old new bytes left
    → ((taken : List ℕ) × (bytes ≡ taken ++ left)) × ((text : List ℕ) × AppendsFront old new text)

-- the meaning of any fault
pub record PlacesFaultFits (offsets : Bool) (before after old new : Option (List ℕ)) : Type 0 where
  pub of_writer : FitsPlaces offsets before after old new WriteFailed
      → IfKnown before after (StopsPlacing offsets old new)
  pub of_memory : (fault : ImageFault)
      → FitsCause (PlacesToFault offsets) OutOfMemory fault before after old new
      → (fault.place ≡ 0) × (after ≡ before) × Keeps old new

-- the meaning of the outcomes of a listing with offsets
pub record PlacesSay : Type 0 where
  pub at_end : (offsets : Bool) (old new : Option (List ℕ)) (bytes left : List ℕ)
      → PlacesEndSays offsets old new bytes left
  pub at_fault : (offsets : Bool) (fault : ImageFault) (old new : Option (List ℕ))
      (bytes left : List ℕ) → PlacesFaultSays offsets fault old new bytes left
  pub stopped : (offsets : Bool) (old new : Option (List ℕ)) (bytes left : List ℕ)
      → PlacesStopSays offsets old new bytes left
  pub fits : (offsets : Bool) (before after old new : Option (List ℕ))
      → PlacesFaultFits offsets before after old new
  pub worked : PlacesAreWorked
  pub first : PlacedAreFirst
  pub one : OnePlaces
  pub of_block : (bytes : List ℕ) → PlaceIsOfWord (block bytes)
  pub of_mark : PlaceIsOfWord mark
