-- What `survey` prints of images.
use Rattle.std.specs.Prelude.{◌≡◌, ◌⊎◌, ℕ, Bool, true, List, length, Option, Some}
use Rattle.std.specs.Io.KnownBytes.{Appends}
use Rattle.tape_run.specs.{declared.section.SectionKey.SectionKey, declared.survey.Wording.Wording}
use Rattle.tape_run.specs.{declared.survey.copies.CopyNote.CopyNote, Reeling.Mounting}
use Rattle.tape_run.specs.{declared.survey.view.ImageSurvey.ImageSurvey, SurveySound.IsSound}
use Rattle.tape_run.specs.{SurveySets.is_all, SurveyRows.survey_rows}
use Rattle.tape_run.specs.declared.survey.Wording.TheVariants.{Rows}
use Rattle.tape_run.specs.SurveyConflicts.{IsIn, CopiesDiffer, EndsDiffer, TellsDispute}
use Rattle.tape_run.specs.SurveyConflicts.{all_placed}
use Rattle.tape_run.specs.SurveyCopies.{Noted, disputed, disputed_on}
use Rattle.tape_run.specs.SurveyRead.{Found, nothing_found, AreViewed}
use Rattle.tape_image.specs.Written.{AppendsFront}

-- The images were read, one after another, and their survey was written; the result says whether
-- all is well.
pub record Surveys {L R : Type 0} (y : Wording) (gives : Mounting L R)
    (remaining : R → Option (List ℕ))
    (names : List (List ℕ)) (shelf left : L) (old new : Option (List ℕ)) (all : Bool)
    : Type 0 where
  pub sights : List (Option ImageSurvey)
  pub found : Found
  pub each : length sights ≡ length names
  pub viewed : AreViewed gives remaining shelf 0 sights nothing_found left found
  -- a text was written: the rows of what was found, or words about it
  pub text : List ℕ
  pub wrote : Appends old new text
  pub rows : y ≡ Rows → text ≡ survey_rows names sights found
  pub is_so : all ≡ is_all found
  -- if all is well, the images are sound; and copies that are reported to differ do differ
  pub sound : all ≡ true → IsSound gives remaining shelf left sights found viewed
  pub conflicts : (key : SectionKey) (n : CopyNote) (other : ℕ)
      → IsIn {X = Noted} found.copies.notes (key, n) → n.other ≡ Some other
      → CopiesDiffer (all_placed gives remaining shelf 0 sights nothing_found left found viewed) key
      n.image other
  pub ends : (key : SectionKey) (n : CopyNote) (other : ℕ)
      → IsIn {X = Noted} found.copies.notes (key, n) → n.other_end ≡ Some other
      → EndsDiffer (all_placed gives remaining shelf 0 sights nothing_found left found viewed) key
      n.image other
  -- an image is reported to be in conflict exactly if it has a good copy of a section whose good
  -- copies differ
  pub disputes : (image : ℕ) → TellsDispute
      (all_placed gives remaining shelf 0 sights nothing_found left found viewed)
      found.copies.notes image (disputed_on (disputed found.copies) image)

-- The images were read, and a prefix of their survey was written.
pub record SurveysFront {L R : Type 0} (y : Wording) (gives : Mounting L R)
    (remaining : R → Option (List ℕ))
    (names : List (List ℕ)) (shelf left : L) (old new : Option (List ℕ)) : Type 0 where
  pub sights : List (Option ImageSurvey)
  pub found : Found
  pub each : length sights ≡ length names
  pub viewed : AreViewed gives remaining shelf 0 sights nothing_found left found
  pub text : List ℕ
  pub wrote : AppendsFront old new text
  pub rows : y ≡ Rows → text ≡ survey_rows names sights found

-- nothing was written, or all images were read
abbrev pub SurveysInPart : {L R : Type 0} → Wording → Mounting L R → (R → Option (List ℕ))
    → List (List ℕ) → L → L → Option (List ℕ) → Option (List ℕ) → Type 0
SurveysInPart y gives remaining names shelf left old new =
    (new ≡ old) ⊎ SurveysFront y gives remaining names shelf left old new
