-- The state after a run of `list`; the writer contained `old` before and contains `new` after.
use Rattle.std.specs.Prelude.{◌≡◌, ◌≢◌, ℕ, ◌+◌, List, [], ◌∷◌, ◌++◌, length, Option}
use Rattle.std.specs.Io.KnownBytes.{Appends, Keeps}
use Rattle.tape_image.specs.{declared.item.Ending.Ending, declared.item.ImageCause.ImageCause}
use Rattle.tape_image.specs.declared.item.ImageCause.TheVariants.{Device, OutOfMemory}
use Rattle.tape_image.specs.{declared.item.ImageFault.ImageFault, Tape.TapeItem, Reader.IfKnown}
use Rattle.tape_image.specs.{Begins.ends, Begins.Walks, Step.TakesEnd, Step.TakesFault}
use Rattle.tape_image.specs.Written.{AppendsFront}
use Rattle.tape_run.specs.{declared.fault.ListFault.ListFault, ListLine.line_of}
use Rattle.tape_run.specs.declared.fault.ListFault.TheVariants.{Image, WriteFailed}
use Rattle.tape_run.specs.Listing.{lines_from, end_line, listing_of, IsListing}

-- The items that the bytes begin with, up to the end of the medium, were read, and the listing of
-- the image was written. The rest of the bytes begins after the end-of-medium marker, if there is
-- one.
pub record ListsToEnd (old new : Option (List ℕ)) (bytes left : List ℕ) : Type 0 where
  pub items : List TapeItem
  pub ending : Ending
  pub place : ℕ
  pub takes : TakesEnd 0 items ending place bytes left
  pub listed : IsListing bytes (listing_of items (ends ending))
  pub wrote : Appends old new (listing_of items (ends ending))

-- The items before the fault were read, and their lines were written. Either the fault is caused by
-- the bytes, and then these lines are the listing of the image, or the reader failed there.
pub record ListsToFault (fault : ImageFault) (old new : Option (List ℕ)) (bytes left : List ℕ) :
    Type 0 where
  pub items : List TapeItem
  pub takes : TakesFault 0 items fault bytes left
  pub listed : fault.cause ≢ Device → IsListing bytes (lines_from 1 items)
  pub wrote : Appends old new (lines_from 1 items)

-- a prefix of the listing was written
abbrev pub ListsInPart : Option (List ℕ) → Option (List ℕ) → List ℕ → Type 0
ListsInPart old new bytes = (text : List ℕ) × IsListing bytes text × AppendsFront old new text

-- The whole of one text was written, and then a prefix of another.
abbrev pub AppendsInto : Option (List ℕ) → Option (List ℕ) → List ℕ → List ℕ → Type 0
AppendsInto old new all part =
    (front rest : List ℕ) × Appends old new (all ++ front) × (part ≡ front ++ rest)

-- After a failed write: the bytes that were read, and the line that was not written completely.
-- Nothing is read after the item of that line.
pub data StopsWriting (old new : Option (List ℕ)) (bytes left : List ℕ) : Type 0 where
  -- at the line of an item
  at_item : (done : List TapeItem) (item : TapeItem) (place : ℕ)
      → Walks 0 bytes (done ++ item ∷ []) place left
      → AppendsInto old new (lines_from 1 done) (line_of (length done + 1) item)
      → StopsWriting old new bytes left
  -- at the last line, or when it was flushed
  at_end : (items : List TapeItem) (ending : Ending) (place : ℕ)
      → TakesEnd 0 items ending place bytes left
      → AppendsInto old new (lines_from 1 items) (end_line ending)
      → StopsWriting old new bytes left
  -- when the lines before a fault of the image were flushed
  at_fault : (items : List TapeItem) (fault : ImageFault)
      → TakesFault 0 items fault bytes left
      → Appends old new (lines_from 1 items)
      → StopsWriting old new bytes left

-- what was written, and which bytes were read and left
abbrev pub Outcome : Type 1
Outcome = Option (List ℕ) → Option (List ℕ) → List ℕ → List ℕ → Type 0

-- If memory was refused nothing was read or written. Otherwise the image was listed up to its
-- fault.
abbrev pub FitsCause : (ImageFault → Outcome) → ImageCause → ImageFault → Option (List ℕ)
    → Option (List ℕ) → Option (List ℕ) → Option (List ℕ) → Type 0
FitsCause to_fault OutOfMemory fault before after old new =
    (fault.place ≡ 0) × (after ≡ before) × Keeps old new
FitsCause to_fault _ fault before after old new = IfKnown before after (to_fault fault old new)

-- The fault is reported where it is, for a reader with the bytes `before` and then `after`; this
-- is the outcome at a fault of the image, and after a failed write.
abbrev pub FitsBy : (ImageFault → Outcome) → Outcome → Option (List ℕ) → Option (List ℕ)
    → Option (List ℕ) → Option (List ℕ) → ListFault → Type 0
FitsBy to_fault stops before after old new (Image fault) =
    FitsCause to_fault fault.cause fault before after old new
FitsBy to_fault stops before after old new WriteFailed = IfKnown before after (stops old new)

-- the fault is reported where it is, with the outcome of a listing
abbrev pub FitsFault : Option (List ℕ) → Option (List ℕ) → Option (List ℕ) → Option (List ℕ)
    → ListFault → Type 0
FitsFault = FitsBy ListsToFault StopsWriting
