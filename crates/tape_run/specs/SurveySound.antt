-- The consequences if a survey reports that nothing is missing, damaged or in conflict.
use Rattle.std.specs.Prelude.{◌≡◌, ◌≢◌, ℕ, true, false, List, [], Option, Some, None}
use Rattle.std.specs.List.{AllByRecursion}
use Rattle.tape_run.specs.{declared.section.SectionState.TheVariants.Good, Lacks.lacks}
use Rattle.tape_run.specs.{declared.survey.view.ImageSurvey.ImageSurvey, Reeling.Mounting}
use Rattle.tape_run.specs.{SurveyDigest.digest_of, SurveyWhole.is_whole_sight}
use Rattle.tape_run.specs.SurveyConflicts.{Placed, all_placed, IsIn}
use Rattle.tape_run.specs.SurveyFiles.{reads_wide}
use Rattle.tape_run.specs.SurveyRead.{Found, nothing_found, AreViewed}
use Rattle.tape_run.specs.SurveySets.{follows_end}

-- an image was opened, and is a volume from its label to its last mark in formats that are read
abbrev pub IsWhole : Option ImageSurvey → Type 0
IsWhole None = ⊥
IsWhole (Some sight) = is_whole_sight sight ≡ true

-- two good copies of one section have the same number of blocks and the same digest, and the file
-- ends with both of them or with none
abbrev pub Agree : Placed → Placed → Type 0
Agree x y = (x.1.0.1.blocks ≡ y.1.0.1.blocks) × (digest_of x.1.1 ≡ digest_of y.1.1)
    × (x.1.0.1.eof ≡ y.1.0.1.eof)

-- These images, on which this was found: each was opened and read to its end; something was found;
-- each section that was found has a good copy; nothing is missing of any file; no section follows a
-- good one that ends its file; no number has labels of different files; no second label is lost;
-- each block of a good section is in its format; and no two good copies of a section differ.
pub record IsSound {L R : Type 0} (gives : Mounting L R) (remaining : R → Option (List ℕ))
    (shelf last : L) (sights : List (Option ImageSurvey)) (d : Found)
    (v : AreViewed gives remaining shelf 0 sights nothing_found last d) : Type 0 where
  pub images : AllByRecursion IsWhole sights
  pub found : d.sections ≢ []
  pub sections : AllByRecursion (λ t. t.1.state ≡ Good) d.sections
  pub missing : lacks d.sections ≡ []
  pub ends : AllByRecursion (λ t. follows_end d.sections t ≡ false) d.sections
  pub labels : AllByRecursion (λ f. f.1.conflict ≡ None) d.files.notes
  pub second : AllByRecursion (λ f. reads_wide f.1 ≡ true) d.files.notes
  pub fits : AllByRecursion (λ f. f.1.misfit ≡ None) d.files.notes
  pub copies : (x y : Placed)
      → IsIn (all_placed gives remaining shelf 0 sights nothing_found last d v) x
      → IsIn (all_placed gives remaining shelf 0 sights nothing_found last d v) y
      → x.1.0.0 ≡ y.1.0.0 → Agree x y
