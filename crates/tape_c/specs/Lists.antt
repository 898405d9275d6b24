-- The listing of an image in a buffer.
use Rattle.std.specs.Prelude.{◌≡◌, ◌⊎◌, ℕ, List}
use Rattle.tape_image.specs.{Begins.Stop, Begins.ends, Begins.faults, Fault.number_of}
use Rattle.tape_run.specs.Listing.{IsListing}
use Rattle.tape_c.specs.{declared.end.End.End, Ends.Gives, Ends.nothing_given}

-- the state of a call that gave everything up to this stop: 0, or the number of the fault
abbrev pub state_of : Stop → ℕ
state_of (ends _) = 0
state_of (faults cause) = number_of cause

-- the offset of a fault, which stops at that offset; otherwise 0
abbrev pub place_of : Stop → ℕ → ℕ
place_of (ends _) end = 0
place_of (faults _) end = end

-- the buffer has the listing of the image, or as much of it as has room; or nothing was written,
-- since memory was refused, or reading the image failed
pub data Lists (image old new : List ℕ) (end : End) : Type 0 where
  given : (text : List ℕ) (listed : IsListing image text)
      → Gives text (place_of listed.stop listed.end) (state_of listed.stop) old new end
      → Lists image old new end
  nothing : new ≡ old → (end ≡ nothing_given 6) ⊎ (end ≡ nothing_given 5) → Lists image old new end
