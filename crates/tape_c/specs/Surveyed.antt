-- The survey of images in a buffer.
use Rattle.std.specs.Prelude.{◌≡◌, ◌⊎◌, ℕ, zero, suc, ◌+◌, Bool, true, if◌then◌else◌, List, [], ◌∷◌}
use Rattle.std.specs.Prelude.{◌++◌, map, length, decimal, Option, Some, option_map, slice_get}
use Rattle.std.specs.{Borrow.Bor}
use Rattle.tape_run.specs.declared.survey.Wording.TheVariants.{Rows}
use Rattle.tape_run.specs.{Reeling.Mounting, Survey.Surveys}
use Rattle.tape_c.specs.{declared.end.End.End, declared.survey.Image.Image}
use Rattle.tape_c.specs.{Ends.Gives, Ends.nothing_given}

-- the bytes of images
abbrev pub bytes_of : List Image → List (List ℕ)
bytes_of images = map (λ image. image.bytes.now) images

-- An image is opened by its number; one that does not exist cannot be opened. The images stay as
-- they are.
abbrev pub Opens : Mounting (List (List ℕ)) (Bor (List ℕ))
Opens images number image left =
    (option_map (λ bytes. bytes.now) image ≡ slice_get images number) × (left ≡ images)

-- the numbers from 1 to this one, as texts
abbrev pub numbers_to : ℕ → List (List ℕ)
numbers_to zero = []
numbers_to (suc n) = numbers_to n ++ decimal (suc n) ∷ []

-- The rows of the survey of the images, whose names are their numbers, were appended to the text;
-- the answer says whether all is well.
abbrev pub SurveysTo : List (List ℕ) → List ℕ → List ℕ → Bool → Type 0
SurveysTo images old new all = (left : List (List ℕ))
    × Surveys {L = List (List ℕ)} {R = Bor (List ℕ)} Rows Opens (λ bytes. Some bytes.now)
    (numbers_to (length images)) images left (Some old) (Some new) all

-- the buffer has the rows, or as much of them as has room, and the state says whether all is well;
-- or nothing was written, since memory was refused
pub data SurveysInto (images : List (List ℕ)) (old new : List ℕ) (end : End) : Type 0 where
  given : (text : List ℕ) (all : Bool) → SurveysTo images [] text all
      → Gives text 0 (if all then 0 else 8) old new end → SurveysInto images old new end
  nothing : new ≡ old → end ≡ nothing_given 6 → SurveysInto images old new end
