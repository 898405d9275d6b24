-- What was read of images for a survey.
use Rattle.std.specs.Prelude.{◌≡◌, ℕ, ◌+◌, ◌&&◌, Bool, true, false, List, [], ◌∷◌, Option, Some}
use Rattle.std.specs.Prelude.{None, ◌≤◌, length}
use Rattle.std.specs.Io.KnownBytes.{Consumes}
use Rattle.tape_run.specs.{declared.container.Container.Container, Container.container_of}
use Rattle.tape_image.specs.{Tape.TapeItem, Reader.IfKnown}
use Rattle.tape_run.specs.{declared.survey.view.ImageSurvey.ImageSurvey, SurveyWhole.is_whole_sight}
use Rattle.tape_run.specs.{Added.StopsBehind, SurveyGlance.glance_of, SurveyGlance.damages_in}
use Rattle.tape_run.specs.{Checked.Reel, Noted.noted_all, Reeling.Mounting}
use Rattle.tape_run.specs.{Passing.Told, Onward.met_in, SurveyFiles.Labelled}
use Rattle.tape_run.specs.SurveyFiles.{filed_in}
use Rattle.tape_run.specs.SurveyFiles.{no_labels}
use Rattle.tape_run.specs.SurveyCopies.{Copied, no_copies, copied_in}
use Rattle.tape_run.specs.SurveyLocations.{Located, located_in, next_image}

-- the results of reading images: the sections and files found, whether every image was read
-- completely, the image of each section, its good copies, and the number of images
pub record Found : Type 0 where
  pub sections : List Told
  pub files : Labelled
  pub whole : Bool
  pub locations : List Located
  pub copies : Copied
  pub images : ℕ

-- nothing was found
abbrev pub nothing_found : Found
nothing_found = record {
  sections = [];
  files = no_labels;
  whole = true;
  locations = [];
  copies = no_copies;
  images = 0;
}

-- All items that a reader of the image with this number returned were surveyed: the sections and
-- header labels in them were added, the places of the sections, and the good copies. Before the
-- call the reader had the bytes `before`, and then the bytes `after`.
pub record ViewsItems (before after : Option (List ℕ)) (image : ℕ) (sections : List Told)
    (files : Labelled) (located : List Located) (known : Copied) (sight : ImageSurvey)
    (told : List Told) (filed : Labelled) (locations : List Located) (copies : Copied) : Type 0
  where
    pub items : List TapeItem
    pub stop : IfKnown before after (StopsBehind items sight.stop)
    pub glance : sight.glance ≡ glance_of items
    pub damaged : sight.damaged ≡ damages_in (met_in items)
    pub noted : told ≡ noted_all sections (met_in items)
    pub named : filed ≡ filed_in image files items
    pub places : locations ≡ located_in image sections located items
    pub copied : copies ≡ copied_in image known items

-- The kind is that of first bytes of an image, which had the bytes `before`: of as many as the
-- survey reads first, or of those before its end or an error of its reader.
abbrev pub IsKindOf : Option (List ℕ) → Container → Type 0
IsKindOf before kind = (front : List ℕ) × (rest : Option (List ℕ)) × Consumes before rest front
    × (length front ≤ 36864) × (kind ≡ container_of front)

-- An image was read, completely if it is a whole volume; or it was not opened.
abbrev pub IsViewed : Reel → Option ImageSurvey → Found → Found → Type 0
IsViewed None None c d = d ≡ record c { whole = false; images = next_image c.images }
IsViewed (Some before) (Some sight) c d = (after : Option (List ℕ))
    × ViewsItems before after c.images c.sections c.files c.locations c.copies sight d.sections
    d.files d.locations d.copies
    × (d.whole ≡ (c.whole && is_whole_sight sight)) × (d.images ≡ next_image c.images)
    × IsKindOf before sight.kind
IsViewed _ _ c d = ⊥

-- Images of a source from this number on, opened one after another, were read.
abbrev pub AreViewed : {L R : Type 0} → Mounting L R → (R → Option (List ℕ)) → L → ℕ
    → List (Option ImageSurvey) → Found → L → Found → Type 0
AreViewed gives remaining shelf number [] c last d = (last ≡ shelf) × (d ≡ c)
AreViewed gives remaining shelf number (sight ∷ sights) c last d = (image : Option _)
    × (next : _) × (mid : Found) × gives shelf number image next
    × IsViewed (Rattle.std.specs.Prelude.option_map remaining image) sight c mid
    × AreViewed gives remaining next (number + 1) sights mid last d
