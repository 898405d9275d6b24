-- The listing of an image.
use Rattle.std.specs.Prelude.{◌≡◌, ℕ, ◌+◌, List, [], ◌∷◌, ◌++◌, codes}
use Rattle.tape_image.specs.{declared.item.Ending.Ending, Tape.TapeItem}
use Rattle.tape_image.specs.declared.item.Ending.TheVariants.{Marked, Physical}
use Rattle.tape_image.specs.Begins.{Stop, ends, faults, Begins}
use Rattle.tape_run.specs.ListLine.{line_of}

-- the lines of items, the first of which has this number
abbrev pub lines_from : ℕ → List TapeItem → List ℕ
lines_from n [] = []
lines_from n (item ∷ items) = line_of n item ++ lines_from (n + 1) items

-- the line of each end of medium
abbrev pub end_line : Ending → List ℕ
end_line Marked = codes "END MARKED\n"
end_line Physical = codes "END PHYSICAL\n"

-- the last line is that for the end of the medium; after a fault there is none
abbrev pub last_line : Stop → List ℕ
last_line (ends ending) = end_line ending
last_line (faults _) = []

-- the listing of items after which the image stops like this
abbrev pub listing_of : List TapeItem → Stop → List ℕ
listing_of items stop = lines_from 1 items ++ last_line stop

-- The text is the listing of the image with these bytes: it has the lines of the items that they
-- begin with.
pub record IsListing (bytes text : List ℕ) : Type 0 where
  pub items : List TapeItem
  pub end : ℕ
  pub stop : Stop
  pub begins : Begins 0 bytes items end stop
  pub listed : text ≡ listing_of items stop

-- each image has one listing
abbrev pub OneListing : Type 0
OneListing = (bytes : List ℕ) → (text : List ℕ) × IsListing bytes text
    × ((other : List ℕ) → IsListing bytes other → other ≡ text)
