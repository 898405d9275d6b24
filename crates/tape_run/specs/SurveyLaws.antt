-- What a survey says about the items of an image, and about the volumes of a set.
use Rattle.std.specs.Prelude.{◌≡◌, ◌≢◌, ℕ, ◌+◌, Bool, true, false, List, [], ◌∷◌, ◌++◌, length, map}
use Rattle.std.specs.Prelude.{◌≤◌, ◌<◌, Option, Some, None, replicate}
use Rattle.std.specs.{Str.bytes_eq, List.AllByRecursion, List.flat_map}
use Rattle.tape_image.specs.Tape.{TapeItem, block, mark}
use Rattle.tape_label.specs.declared.values.{Vol1.Vol1, Head1.Head1, Trail1.Trail1}
use Rattle.tape_label.specs.{Vol1.IsVol1, Head1.IsHead1, Trail1.IsTrail1}
use Rattle.tape_label.specs.VolumeLabels.{is_volume_label}
use Rattle.tape_run.specs.declared.survey.course.{ExpectedItem.ExpectedItem, LabelOrder.LabelOrder}
use Rattle.tape_run.specs.declared.section.Entry.{Entry}
use Rattle.tape_run.specs.declared.survey.course.LabelOrder.TheVariants.{Ended, Leaves}
use Rattle.tape_run.specs.declared.survey.volumes.VolumeItem.TheVariants.{Named, MissingAfter}
use Rattle.tape_run.specs.{Lacks.SetFiles, Lacks.entry_at, Lacks.key_at, SurveyChain.is_last}
use Rattle.tape_run.specs.{SurveyChain.volumes_from, SurveyChain.volumes_of, SurveyConflicts.IsIn}
use Rattle.tape_run.specs.{SurveyGaps.is_found, SurveyGlance.glance_of, SurveyRead.Found}
use Rattle.tape_run.specs.{Passing.Told, WidePassing.AreNoAbsence, Onward.met_in}
use Rattle.tape_run.specs.Passing as Strict
use Rattle.tape_run.specs.declared.passing.Phase.TheVariants.{Volume}
use Rattle.tape_run.specs.WideShown.{AreHeaders}

-- ---- the order of a volume

-- A section: HDR1 and further header labels, of which HDR2 may be absent, a mark, its blocks, a
-- mark, a trailer label with the numbers of its first label and further ones, a mark.
pub record IsSectionInOrder (items : List TapeItem) : Type 0 where
  pub hdr1 : List ℕ
  pub headers : List (List ℕ)
  pub content : List TapeItem
  pub trailer : List ℕ
  pub trailers : List (List ℕ)
  pub head : Head1
  pub trail : Trail1
  pub stands : items ≡ block hdr1 ∷ map block headers
      ++ mark ∷ content ++ mark ∷ block trailer ∷ map block trailers ++ mark ∷ []
  pub is_head : IsHead1 hdr1 head
  pub second : AreHeaders headers
  pub no_mark : AllByRecursion (λ x. x ≢ mark) content
  pub is_trail : IsTrail1 trailer trail
  pub sect : trail.head.sect ≡ head.sect
  pub file : trail.head.sequence ≡ head.sequence

-- A volume up to this item: its label, further volume labels, and these sections.
pub record IsBegun (items : List TapeItem) (sections : List (List TapeItem)) : Type 0 where
  pub vol1 : List ℕ
  pub label : Vol1
  pub labels : List (List ℕ)
  pub stands : items ≡ block vol1 ∷ map block labels ++ flat_map (λ s. s) sections
  pub is_label : IsVol1 vol1 label
  pub further : AllByRecursion (λ b. is_volume_label b ≡ true) labels
  pub each : AllByRecursion IsSectionInOrder sections

-- the end of a volume with these sections: a mark, and one more if there are no sections
abbrev pub end_marks : List (List TapeItem) → List TapeItem
end_marks [] = mark ∷ mark ∷ []
end_marks (section ∷ sections) = mark ∷ []

-- The items are a volume, from its label to its end.
pub record IsVolumeInOrder (items : List TapeItem) : Type 0 where
  pub front : List TapeItem
  pub sections : List (List TapeItem)
  pub begun : IsBegun front sections
  pub stands : items ≡ front ++ end_marks sections

-- ---- what a glance says

-- the extent to which items are in the order of a volume
abbrev pub course_of : List TapeItem → LabelOrder
course_of items = (glance_of items).course

-- they left it
abbrev pub has_left : LabelOrder → Bool
has_left (Leaves n w) = true
has_left _ = false

-- Item n, counted from 1, is the first that breaks the order of a volume: the items before it are
-- in that order, and together with it they are not.
pub record IsFirstAstray (items : List TapeItem) (n : ℕ) : Type 0 where
  pub before : List TapeItem
  pub item : TapeItem
  pub behind : List TapeItem
  pub stands : items ≡ before ++ item ∷ behind
  pub number : n ≡ length before + 1
  pub follow : has_left (course_of before) ≡ false
  pub leaves : has_left (course_of (before ++ item ∷ [])) ≡ true

-- If a summary says that an item breaks the order, it is the first that does so.
abbrev pub LeavesThere : Type 0
LeavesThere = (items : List TapeItem) (n : ℕ) (w : ExpectedItem) → course_of items ≡ Leaves n w
    → IsFirstAstray items n

-- If a summary says that the volume ended, the items are a volume, and nothing follows it.
abbrev pub EndedIsVolume : Type 0
EndedIsVolume = (items : List TapeItem) → course_of items ≡ Ended → IsVolumeInOrder items

-- ---- what `check` finds

-- If no HDR1 is followed by a tape mark or by a header label other than HDR2, a survey finds each
-- section that `check` finds, in the same order, before all others; and no others if no item breaks
-- the order of a volume.
pub record FindsWhatCheckFinds : Type 0 where
  pub each : (items : List TapeItem) → AreNoAbsence Volume items
      → (more : List Told) × (met_in items ≡ Strict.met_in items ++ more)
  pub all : (items : List TapeItem) → AreNoAbsence Volume items
      → has_left (course_of items) ≡ false → met_in items ≡ Strict.met_in items

-- ---- volumes

-- The volumes of a set, as a survey names them.
pub record VolumesAreListed : Type 0 where
  -- the volume of a section that was found is among the volumes of the set, if no section before it
  -- ends its file
  pub named : (d : Found) (x : SetFiles) (file sect : ℕ) (e : Entry) → 1 ≤ file → file ≤ x.1
      → is_found d x.0 file ≡ true → 1 ≤ sect → sect ≤ 9999
      → ((i : ℕ) → 1 ≤ i → i < sect → is_last (entry_at d.sections (key_at x.0 file i)) ≡ false)
      → entry_at d.sections (key_at x.0 file sect) ≡ Some e → IsIn (volumes_of d x) (Named e.volume)
  -- sections that are missing between two volumes are one missing volume, however many they are
  pub one : (front rest : List (Option (List ℕ))) (u v : List ℕ) (n : ℕ) → bytes_eq u v ≡ false
      → volumes_from None false (front ++ Some u ∷ None ∷ (replicate n None ++ Some v ∷ rest))
      ≡ volumes_from None false (front ++ Some u ∷ [])
      ++ (MissingAfter u ∷ Named v ∷ volumes_from (Some v) false rest)
