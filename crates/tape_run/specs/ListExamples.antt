-- A worked listing, and the meaning of each outcome of listing, clause by clause.
use Rattle.std.specs.Prelude.{◌≡◌, ◌≢◌, ℕ, List, [], ◌∷◌, ◌++◌, Option, codes}
use Rattle.std.specs.Io.KnownBytes.{Appends, Keeps}
use Rattle.tape_image.specs.{declared.item.Ending.TheVariants.Marked, Tape.bad, Tape.mark}
use Rattle.tape_image.specs.declared.item.ImageCause.TheVariants.{Device, OutOfMemory}
use Rattle.tape_image.specs.{declared.item.ImageFault.ImageFault, Begins.ends, Reader.IfKnown}
use Rattle.tape_image.specs.{Step.TakesEnd, Step.TakesFault, Written.AppendsFront}
use Rattle.tape_run.specs.Listed.{ListsToEnd, ListsToFault, ListsInPart, StopsWriting, FitsFault}
use Rattle.tape_run.specs.{declared.fault.ListFault.TheVariants.WriteFailed, Listed.FitsCause}
use Rattle.tape_run.specs.Listing.{lines_from, listing_of, IsListing}

-- a worked listing
pub record ListingIsWorked : Type 0 where
  pub listing : listing_of (mark ∷ bad ∷ []) (ends Marked)
      ≡ codes "000001 MARK\n000002 BAD\nEND MARKED\n"

-- the outcome of a run of `list` that reached the end of the medium
pub record EndSays (old new : Option (List ℕ)) (bytes left : List ℕ) : Type 0 where
  pub took : (l : ListsToEnd old new bytes left) → TakesEnd 0 l.items l.ending l.place bytes left
  pub listed : (l : ListsToEnd old new bytes left)
      → IsListing bytes (listing_of l.items (ends l.ending))
  pub wrote : (l : ListsToEnd old new bytes left)
      → Appends old new (listing_of l.items (ends l.ending))

-- the outcome of a run that found a fault of the image
abbrev pub FaultSays : ImageFault → Option (List ℕ) → Option (List ℕ) → List ℕ → List ℕ → Type 0
FaultSays fault old new bytes left = (l : ListsToFault fault old new bytes left)
    → TakesFault 0 l.items fault bytes left
    × (fault.cause ≢ Device → IsListing bytes (lines_from 1 l.items))
    × Appends old new (lines_from 1 l.items)

-- the outcome of a run whose write failed: a prefix of the bytes was read, and a prefix of the
-- listing of these was written
abbrev pub StopSays : Option (List ℕ) → Option (List ℕ) → List ℕ → List ℕ → Type 0
StopSays old new bytes left = StopsWriting old new bytes left
    → ((taken : List ℕ) × (bytes ≡ taken ++ left)) × ((text : List ℕ) × AppendsFront old new text)

-- the meaning of any fault
pub record FaultFits (before after old new : Option (List ℕ)) : Type 0 where
  pub of_writer : FitsFault before after old new WriteFailed
      → IfKnown before after (StopsWriting old new)
  pub of_memory : (fault : ImageFault)
      → FitsCause ListsToFault OutOfMemory fault before after old new
      → (fault.place ≡ 0) × (after ≡ before) × Keeps old new

-- the meaning of the outcomes of `list`
pub record OutcomesSay : Type 0 where
  pub at_end : (old new : Option (List ℕ)) (bytes left : List ℕ) → EndSays old new bytes left
  pub at_fault : (fault : ImageFault) (old new : Option (List ℕ)) (bytes left : List ℕ)
      → FaultSays fault old new bytes left
  pub in_part : (old new : Option (List ℕ)) (bytes : List ℕ) (l : ListsInPart old new bytes)
      → IsListing bytes l.0 × AppendsFront old new l.0
  pub stopped : (old new : Option (List ℕ)) (bytes left : List ℕ) → StopSays old new bytes left
  pub fits : (before after old new : Option (List ℕ)) → FaultFits before after old new
