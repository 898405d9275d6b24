-- Examples for the definitions of surveys. They are the contract of the call `laws::cases`.
use Rattle.std.specs.Prelude.{◌≡◌, ◌≢◌, ◌++◌, ◌+◌, ◌&&◌, length, ℕ, Bool, true, false, List, []}
use Rattle.std.specs.Prelude.{◌∷◌, Option, Some, None, codes}
use Rattle.std.specs.{List.AllByRecursion, Io.KnownBytes.Appends}
use Rattle.tape_image.specs.{Tape.TapeItem, Tape.mark, Written.AppendsFront, Reader.IfKnown}
use Rattle.tape_label.specs.{Vol1.IsVol1, Head1.IsHead1, Trail1.IsTrail1}
use Rattle.tape_label.specs.VolumeLabels.{is_volume_label}
use Rattle.tape_run.specs.SurveyLaws.{course_of, has_left, end_marks, IsSectionInOrder, IsBegun}
use Rattle.tape_run.specs.SurveyLaws.{IsVolumeInOrder, IsFirstAstray, LeavesThere, EndedIsVolume}
use Rattle.tape_run.specs.{declared.survey.course.ExpectedItem.ExpectedItem, SurveyFiles.filed_in}
use Rattle.tape_run.specs.{Noted.noted_all, Survey.Surveys, Survey.SurveysFront}
use Rattle.tape_run.specs.SurveyRows.{survey_rows}
use Rattle.tape_run.specs.declared.survey.Wording.TheVariants.{Rows}
use Rattle.tape_run.specs.{declared.survey.dates.Date.Date, declared.survey.Wording.Wording}
use Rattle.tape_run.specs.{declared.survey.view.ImageSurvey.ImageSurvey, SurveyWhole.is_whole_sight}
use Rattle.tape_run.specs.{Onward.met_in, SurveyConflicts.TellsDispute}
use Rattle.tape_run.specs.SurveyConflicts.{all_placed}
use Rattle.tape_run.specs.declared.survey.course.LabelOrder.TheVariants.{Blank, Ended, Leaves}
use Rattle.tape_run.specs.{CasesOfExtracts.Known, CasesOfExtracts.Readers, SurveySets.is_all}
use Rattle.tape_run.specs.{Reeling.Took, SurveyLocations.located_in, SurveyLocations.next_image}
use Rattle.tape_run.specs.Dates.{date_of, date_text}
use Rattle.tape_run.specs.{Added.StopsBehind, SurveyGlance.glance_of, SurveyGlance.damages_in}
use Rattle.tape_run.specs.SurveyCopies.{copied_in, disputed, disputed_on}
use Rattle.tape_run.specs.{WideShown.AreHeaders, WideShown.IsSecond, WidePassing.IsNoAbsence}
use Rattle.tape_run.specs.declared.{met.Met.Met, passing.Phase.TheVariants.Second}
use Rattle.tape_run.specs.SurveyRead.{Found, nothing_found, IsViewed, AreViewed, IsKindOf}

-- a day of the calendar
abbrev pub date : ℕ → ℕ → ℕ → Date
date year month day = record { year = year; month = month; day = day }

-- the order of a volume, the report on it, and dates
pub record CasesOfSurveys : Type 0 where
  -- a section has labels with the numbers of one section, and a volume has its label and its
  -- sections
  pub section : (items : List TapeItem) (s : IsSectionInOrder items) → IsHead1 s.hdr1 s.head
      × AreHeaders s.headers × IsTrail1 s.trailer s.trail
      × (s.trail.head.sect ≡ s.head.sect) × (s.trail.head.sequence ≡ s.head.sequence)
      × AllByRecursion (λ x. x ≢ mark) s.content
  -- the first label that follows HDR1 is HDR2 or a further header label, and none may follow
  pub first_header : (b : List ℕ) (bs : List (List ℕ)) → AreHeaders (b ∷ bs) → IsSecond b
  pub no_header : AreHeaders []
  pub not_any : IsSecond [] → ⊥
  -- a mark that follows HDR1 shows that a section has no HDR2
  pub absence : (met : Met) → IsNoAbsence (Second met) mark → ⊥
  pub begun : (items : List TapeItem) (sections : List (List TapeItem)) (b : IsBegun items sections)
      → IsVol1 b.vol1 b.label × AllByRecursion (λ l. is_volume_label l ≡ true) b.labels
      × AllByRecursion IsSectionInOrder sections
  pub no_volume : IsVolumeInOrder (mark ∷ []) → ⊥
  pub marks : end_marks [] ≡ mark ∷ mark ∷ []
  -- the order of a volume is left only by an item out of order
  pub followed : (has_left Ended ≡ false) × (has_left Blank ≡ false)
  -- the first item out of order follows those that are in order
  pub astray : (items : List TapeItem) (n : ℕ) (a : IsFirstAstray items n)
      → (items ≡ a.before ++ a.item ∷ a.behind) × (n ≡ length a.before + 1)
      × (has_left (course_of a.before) ≡ false)
      × (has_left (course_of (a.before ++ a.item ∷ [])) ≡ true)
  -- an image has a line with its name, and one that was not opened was not read completely
  pub left_unopened : (c d : Found) → IsViewed None None c d
      → d ≡ record c { whole = false; images = next_image c.images }
  pub unopened : (s : ImageSurvey) (c d : Found) → IsViewed None (Some s) c d → ⊥
  pub opened : (before : Option (List ℕ)) (c d : Found) → IsViewed (Some before) None c d → ⊥
  pub viewed : (before : Option (List ℕ)) (s : ImageSurvey) (c d : Found)
      (v : IsViewed (Some before) (Some s) c d)
      → IfKnown before v.0 (StopsBehind v.1.items s.stop) × (s.glance ≡ glance_of v.1.items)
      × (s.damaged ≡ damages_in (met_in v.1.items))
      × (d.sections ≡ noted_all c.sections (met_in v.1.items))
      × (d.files ≡ filed_in c.images c.files v.1.items)
      × (d.locations ≡ located_in c.images c.sections c.locations v.1.items)
      × (d.copies ≡ copied_in c.images c.copies v.1.items)
      × (d.whole ≡ (c.whole && is_whole_sight s)) × (d.images ≡ next_image c.images)
      × IsKindOf before s.kind
  -- the rows that are written are those of the images that were read, in their order
  pub surveyed : (y : Wording) (names : List (List ℕ)) (shelf left : Readers) (old new : Known)
      (all : Bool) (s : Surveys y Took (λ r. r) names shelf left old new all)
      → (length s.sights ≡ length names)
      × AreViewed Took (λ r. r) shelf 0 s.sights nothing_found left s.found
      × Appends old new s.text × (y ≡ Rows → s.text ≡ survey_rows names s.sights s.found)
      × (all ≡ is_all s.found)
  -- after a fault a prefix of the survey of all images was written, if anything was
  pub surveyed_in_part : (y : Wording) (names : List (List ℕ)) (shelf left : Readers)
      (old new : Known) (s : SurveysFront y Took (λ r. r) names shelf left old new)
      → (length s.sights ≡ length names)
      × AreViewed Took (λ r. r) shelf 0 s.sights nothing_found left s.found
      × AppendsFront old new s.text × (y ≡ Rows → s.text ≡ survey_rows names s.sights s.found)
  -- of two images with good copies that differ each is in conflict, and no other image
  pub disputes : (y : Wording) (names : List (List ℕ)) (shelf left : Readers) (old new : Known)
      (all : Bool) (s : Surveys y Took (λ r. r) names shelf left old new all) (image : ℕ)
      → TellsDispute (all_placed Took (λ r. r) shelf 0 s.sights nothing_found left s.found s.viewed)
      s.found.copies.notes image (disputed_on (disputed s.found.copies) image)
  -- conclusions that a caller can draw from the laws about image summaries
  pub left_there : LeavesThere → (items : List TapeItem) (n : ℕ) (w : ExpectedItem)
      → course_of items ≡ Leaves n w → IsFirstAstray items n
  pub ended_there : EndedIsVolume → (items : List TapeItem) → course_of items ≡ Ended
      → IsVolumeInOrder items
  -- the date of a label, in years with and without a leap day; no date if the label has no valid
  -- one
  pub day : date_of (codes " 85113") ≡ Some (date 1985 4 23)
  pub last_day : date_of (codes " 85365") ≡ Some (date 1985 12 31)
  pub leap_day : date_of (codes "000060") ≡ Some (date 2000 2 29)
  pub no_leap_day : date_of (codes " 00060") ≡ Some (date 1900 3 1)
  pub no_date : date_text (date_of (codes " 00000")) ≡ codes "          "
  pub past_the_year : date_of (codes " 85366") ≡ None
  pub other_century : date_of (codes "185113") ≡ None
