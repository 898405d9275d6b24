-- The consequences for the images if good copies are reported to agree or to differ.
use Rattle.std.specs.Prelude.{◌≡◌, ◌≢◌, ℕ, ◌+◌, true, false, List, [], ◌∷◌, ◌++◌, map, Option, Some}
use Rattle.std.specs.{Prelude.None, Prelude.option_map, List.AllByRecursion}
use Rattle.tape_image.specs.Tape.{TapeItem}
use Rattle.tape_run.specs.{declared.section.SectionKey.SectionKey, Checked.Reel, Passing.Told}
use Rattle.tape_run.specs.{declared.survey.view.ImageSurvey.ImageSurvey, Reeling.Mounting}
use Rattle.tape_run.specs.{WideShown.WideShown, SurveyRead.Found, SurveyRead.IsViewed}
use Rattle.tape_run.specs.SurveyRead.{AreViewed}
use Rattle.tape_run.specs.SurveyCopies.{Copy, Noted, copies_on, noted_at, differs}

-- ---- a good copy

-- The items show this good section, and these are its data blocks.
pub record ShownAs (items : List TapeItem) (t : Told) (blocks : List (List ℕ)) : Type 0 where
  pub shown : WideShown items t.0 t.1
  pub blocks_are : shown.content ≡ blocks

-- Each good copy that is compared is one that the items show, with all its data blocks.
abbrev pub CopiesAreShown : Type 0
CopiesAreShown = (items : List TapeItem)
    → AllByRecursion (λ x. ShownAs items x.0 x.1) (copies_on items)

-- ---- the good copies on all images

-- a good copy, with the number of its image
abbrev pub Placed : Type 0
Placed = ℕ × Copy

-- those on this image
abbrev pub placed_on : ℕ → List TapeItem → List Placed
placed_on image items = map (λ x. (image, x)) (copies_on items)

-- the good copies on an image that was read; none if it was not opened
abbrev pub placed_in : (reel : Reel) (sight : Option ImageSurvey) (c d : Found)
    → IsViewed reel sight c d → List Placed
placed_in (Some before) (Some sight) c d v = placed_on c.images v.1.items
placed_in _ _ c d v = []

-- the good copies on all images that were read
abbrev pub all_placed : {L R : Type 0} (gives : Mounting L R) (remaining : R → Option (List ℕ))
    (shelf : L) (number : ℕ) (sights : List (Option ImageSurvey)) (c : Found) (last : L) (d : Found)
    → AreViewed gives remaining shelf number sights c last d → List Placed
all_placed gives remaining shelf number [] c last d v = []
all_placed gives remaining shelf number (sight ∷ sights) c last d (image, next, mid, gave, is, are)
    =
    placed_in (option_map remaining image) sight c mid is
    ++ all_placed gives remaining next (number + 1) sights mid last d are

-- x is in the list
pub record IsIn {X : Type 0} (xs : List X) (x : X) : Type 0 where
  pub front : List X
  pub rest : List X
  pub stands : xs ≡ front ++ x ∷ rest

-- Two of these are copies of one section, on two images, and their data blocks differ.
pub record CopiesDiffer (xs : List Placed) (key : SectionKey) (first other : ℕ) : Type 0 where
  pub one : Placed
  pub two : Placed
  pub one_in : IsIn xs one
  pub two_in : IsIn xs two
  pub one_key : one.1.0.0 ≡ key
  pub two_key : two.1.0.0 ≡ key
  pub one_on : one.0 ≡ first
  pub two_on : two.0 ≡ other
  pub differ : one.1.1 ≢ two.1.1

-- Two of these are copies of one section, on two images, and the file ends with one of them and
-- continues after the other.
pub record EndsDiffer (xs : List Placed) (key : SectionKey) (first other : ℕ) : Type 0 where
  pub one : Placed
  pub two : Placed
  pub one_in : IsIn xs one
  pub two_in : IsIn xs two
  pub one_key : one.1.0.0 ≡ key
  pub two_key : two.1.0.0 ≡ key
  pub one_on : one.0 ≡ first
  pub two_on : two.0 ≡ other
  pub differ : one.1.0.1.eof ≢ two.1.0.1.eof

-- One of these copies is on this image and is a copy of this section, whose good copies differ; or
-- none on this image is a copy of such a section.
abbrev pub TellsDispute : List Placed → List Noted → ℕ → Option SectionKey → Type 0
TellsDispute xs notes image (Some key) = (x : Placed) × IsIn xs x × (x.0 ≡ image)
    × (x.1.0.0 ≡ key) × (differs (noted_at notes key) ≡ true)
TellsDispute xs notes image None =
    (x : Placed) → IsIn xs x → x.0 ≡ image → differs (noted_at notes x.1.0.0) ≡ false
