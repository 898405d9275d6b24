-- The listing of an image item by item, with or without the offset and the size of each, and the
-- state after a run that writes it; the writer contained `old` before and contains `new` after.
use Rattle.std.specs.Prelude.{◌≡◌, ◌≤◌, ℕ, ◌+◌, ◌-◌, List, [], ◌∷◌, ◌++◌, length, Option, Some}
use Rattle.std.specs.Prelude.{None, Bool, if◌then◌else◌, codes, decimal, unwrap_or}
use Rattle.std.specs.Io.KnownBytes.{Appends}
use Rattle.tape_image.specs.{declared.item.Ending.Ending, declared.item.ImageFault.ImageFault}
use Rattle.tape_image.specs.{Tape.TapeItem, Tape.block, Tape.bad, Tape.mark, Word.block_extent}
use Rattle.tape_image.specs.{Spelling.end_len, Begins.image_limit}
use Rattle.tape_image.specs.Step.{TakesItem, TakesEnd, TakesFault}
use Rattle.tape_run.specs.{declared.fault.ListFault.ListFault, ListLine.line_of, Listing.end_line}
use Rattle.tape_run.specs.Listed.{AppendsInto, FitsBy}

-- an item, the end of the item before it, and its own end
pub record PlacedItem : Type 0 where
  pub item : TapeItem
  pub from : ℕ
  pub behind : ℕ

-- From offset p on the bytes xs are these items, with gaps between them, up to offset q, followed
-- by ys.
abbrev pub Places : ℕ → List PlacedItem → ℕ → List ℕ → List ℕ → Type 0
Places p [] q xs ys = (p ≡ q) × (xs ≡ ys)
Places p (x ∷ more) q xs ys =
    (x.from ≡ p) × (mid : List ℕ) × TakesItem p x.item x.behind xs mid
    × Places x.behind more q mid ys

-- the number of bytes that an item takes in an image; unknown for a bad block
abbrev pub item_extent : TapeItem → Option ℕ
item_extent (block bytes) = Some (block_extent (length bytes))
item_extent bad = None
item_extent mark = Some 4

-- the number of bytes that an item takes; for a bad block, all bytes after the item before it,
-- including gaps
abbrev pub item_size : PlacedItem → ℕ
item_size x = unwrap_or (item_extent x.item) (x.behind - x.from)

-- a line; with `offsets`, after the offset and the size of its item, which ends at this offset
abbrev pub shown_line : Bool → ℕ → ℕ → List ℕ → List ℕ
shown_line offsets behind size line =
    if offsets then decimal (behind - size) ++ codes " " ++ decimal size ++ codes " " ++ line
    else line

-- the line of an item with this number: it begins as many bytes before its end as it takes
abbrev pub placed_line : Bool → ℕ → PlacedItem → List ℕ
placed_line offsets n x = shown_line offsets x.behind (item_size x) (line_of n x.item)

-- the lines of items, the first of which has this number
abbrev pub placed_lines : Bool → ℕ → List PlacedItem → List ℕ
placed_lines offsets n [] = []
placed_lines offsets n (x ∷ more) = placed_line offsets n x ++ placed_lines offsets (n + 1) more

-- the last line, after the given number of bytes: an end-of-medium marker has an offset and a size
-- too
abbrev pub placed_end : Bool → Ending → ℕ → List ℕ
placed_end offsets ending behind = shown_line offsets behind (end_len ending) (end_line ending)

-- All items up to the end of the medium were read; their lines and the last line were written. The
-- rest of the bytes begins after the end-of-medium marker, if there is one.
pub record PlacesToEnd (offsets : Bool) (old new : Option (List ℕ)) (bytes left : List ℕ) : Type 0
  where
    pub items : List PlacedItem
    pub at : ℕ
    pub rest : List ℕ
    pub stand : Places 0 items at bytes rest
    pub ending : Ending
    pub place : ℕ
    pub takes : TakesEnd at [] ending place rest left
    pub wrote : Appends old new (placed_lines offsets 1 items ++ placed_end offsets ending place)

-- The items before the fault were read, and their lines were written.
pub record PlacesToFault (offsets : Bool) (fault : ImageFault) (old new : Option (List ℕ))
    (bytes left : List ℕ) : Type 0 where
  pub items : List PlacedItem
  pub at : ℕ
  pub rest : List ℕ
  pub stand : Places 0 items at bytes rest
  pub within : at ≤ image_limit
  pub takes : TakesFault at [] fault rest left
  pub wrote : Appends old new (placed_lines offsets 1 items)

-- After a failed write: the bytes that were read, and the line that was not written completely.
-- Nothing is read after the item of that line.
pub data StopsPlacing (offsets : Bool) (old new : Option (List ℕ)) (bytes left : List ℕ) : Type 0
  where
    -- at the line of an item
    at_item : (done : List PlacedItem) (x : PlacedItem) (at : ℕ)
        → Places 0 (done ++ x ∷ []) at bytes left → at ≤ image_limit
        → AppendsInto old new (placed_lines offsets 1 done)
        (placed_line offsets (length done + 1) x)
        → StopsPlacing offsets old new bytes left
    -- at the last line, or when it was flushed
    at_end : (items : List PlacedItem) (at : ℕ) (rest : List ℕ) (ending : Ending) (place : ℕ)
        → Places 0 items at bytes rest → TakesEnd at [] ending place rest left
        → AppendsInto old new (placed_lines offsets 1 items) (placed_end offsets ending place)
        → StopsPlacing offsets old new bytes left
    -- when the lines before a fault of the image were flushed
    at_fault : (fault : ImageFault) → PlacesToFault offsets fault old new bytes left
        → StopsPlacing offsets old new bytes left

-- the fault is reported where it is, for a reader with the bytes `before` and then `after`
abbrev pub FitsPlaces : Bool → Option (List ℕ) → Option (List ℕ) → Option (List ℕ)
    → Option (List ℕ) → ListFault → Type 0
FitsPlaces offsets = FitsBy (PlacesToFault offsets) (StopsPlacing offsets)
