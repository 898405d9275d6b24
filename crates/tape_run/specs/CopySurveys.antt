-- What a survey never reports of copies of volumes of a valid set.
use Rattle.std.specs.Prelude.{◌≡◌, ℕ, ◌+◌, Bool, true, false, List, [], ◌∷◌, Option, Some, None, Ok}
use Rattle.std.specs.Prelude.{⊤, option_map, take, IsSome}
use Rattle.std.specs.List.{AllByRecursion}
use Rattle.tape_image.specs.Begins.{Stop, Begins}
use Rattle.tape_label.specs.declared.values.{Head1.Head1, Trail1.Trail1}
use Rattle.tape_label.specs.Reading.{head1_at, trail1_at}
use Rattle.tape_set.specs.Layout.{FileSet, Placed, nth, items, entries, sections}
use Rattle.tape_set.specs.{Lawful.IsLawful, Reading.as_read, Reach.passes}
use Rattle.tape_run.specs.{declared.survey.Wording.Wording, Checked.Reel, Reeling.Mounting}
use Rattle.tape_run.specs.declared.survey.view.ImageSurvey.{ImageSurvey}
use Rattle.tape_run.specs.{Survey.Surveys, SurveyFiles.any_differs, SurveyRead.Found}
use Rattle.tape_run.specs.SurveyRead.{nothing_found, AreViewed}

-- The trailer label of the section repeats the file identifier, the generation and the creation
-- date of its HDR1.
abbrev pub TrailerNames : Placed → Type 0
TrailerNames x = (h : Head1) (t : Trail1)
    → head1_at x.section.hdr1 ≡ Ok h
    → trail1_at x.section.trailer ≡ Ok t
    → (t.head.file_id ≡ h.file_id) × (t.head.generation ≡ h.generation)
    × (t.head.created ≡ h.created)

-- So do all trailer labels of the set. Valid sets need not do so: this is a premise of its own.
abbrev pub TrailersName : FileSet → Type 0
TrailersName set = AllByRecursion TrailerNames (sections set)

-- The bytes begin with a copy of a volume, complete or truncated, of which any data blocks, but no
-- labels and no tape marks, may be unreadable.
pub record IsFairCopy (set : FileSet) (bytes : List ℕ) : Type 0 where
  pub volume : ℕ
  pub there : IsSome (nth set.volumes volume)
  pub good : List Bool
  pub fair : passes good (entries set volume) ≡ true
  pub count : ℕ
  pub end : ℕ
  pub stop : Stop
  pub begins : Begins 0 bytes (as_read (items set volume) (take count good)) end stop

-- The image was not opened, or is such a copy.
abbrev pub IsFairImage : FileSet → Reel → Type 0
IsFairImage set None = ⊤
IsFairImage set (Some None) = ⊥
IsFairImage set (Some (Some bytes)) = IsFairCopy set bytes

-- Each image that was surveyed is such a copy, in any order and with repeats, whether or not its
-- reader failed.
abbrev pub AreFairImages : {L R : Type 0} (set : FileSet) (gives : Mounting L R)
    (remaining : R → Option (List ℕ)) (shelf : L) (number : ℕ) (sights : List (Option ImageSurvey))
    (c : Found) (last : L) (d : Found)
    → AreViewed gives remaining shelf number sights c last d → Type 0
AreFairImages set gives remaining shelf number [] c last d v = ⊤
AreFairImages set gives remaining shelf number (sight ∷ sights) c last d
    (image, next, mid, gave, is, are) = IsFairImage set (option_map remaining image)
    × AreFairImages set gives remaining next (number + 1) sights mid last d are

-- No file has labels that contradict each other, and no good copies of a section differ.
pub record HasNoConflict (d : Found) : Type 0 where
  pub labels : any_differs d.files.notes ≡ false
  pub copies : d.copies.conflicts ≡ []

-- A survey of such copies reports no conflict.
abbrev pub CopiesNeverConflict : {L R : Type 0} → Mounting L R → (R → Option (List ℕ)) → Type 0
CopiesNeverConflict gives remaining = (set : FileSet) (y : Wording) (names : List (List ℕ))
    (shelf left : _) (old new : Option (List ℕ)) (all : Bool)
    → IsLawful set
    → TrailersName set
    → (report : Surveys y gives remaining names shelf left old new all)
    → AreFairImages set gives remaining shelf 0 report.sights nothing_found left report.found
    report.viewed
    → HasNoConflict report.found
