-- The order in which the images of a file are read.
use Rattle.std.specs.Prelude.{◌==◌, ◌&&◌, ◌||◌, not, nat_le, ℕ, zero, suc, ◌+◌, Bool, false}
use Rattle.std.specs.Prelude.{if◌then◌else◌, List, [], ◌∷◌, ◌++◌, length, Option, Some, None}
use Rattle.std.specs.{Map.lookup, Str.bytes_eq}
use Rattle.tape_run.specs.declared.survey.view.ImageSurvey.{ImageSurvey}
use Rattle.tape_run.specs.{Lacks.key_at, Noted.same_key, SurveyLocations.Located, Unpacking.set_of}

-- whether a number is in the list
abbrev pub is_in : ℕ → List ℕ → Bool
is_in n [] = false
is_in n (m ∷ ms) = (m == n) || is_in n ms

-- These images, followed by the image with this number, if it exists and is not among them.
abbrev pub with_image : ℕ → List ℕ → ℕ → List ℕ
with_image size before n =
    if nat_le (n + 1) size && not (is_in n before) then before ++ n ∷ [] else before

-- these images, followed by those of a second list, each once
abbrev pub followed_by : ℕ → List ℕ → List ℕ → List ℕ
followed_by size before [] = before
followed_by size before (n ∷ ns) = followed_by size (with_image size before n) ns

abbrev pub before_these : Option ℕ → List ℕ → List ℕ
before_these None images = []
before_these (Some n) images = n ∷ images

-- the images on which a number of sections of a file begin, from section `sect` on, up to the first
-- section that begins on no known image
abbrev pub section_images : List Located → List ℕ → ℕ → ℕ → ℕ → List ℕ
section_images located set_id file sect zero = []
section_images located set_id file sect (suc n) =
    before_these (lookup (same_key (key_at set_id file sect)) located)
    (section_images located set_id file (sect + 1) n)

-- whether the first section that begins on an image belongs to this set
abbrev pub is_of_set : List ℕ → Option (List ℕ) → Bool
is_of_set set_id None = false
is_of_set set_id (Some found) = bytes_eq found set_id

-- the numbers, from this one on, of all these images, or only of those of the set
abbrev pub images_of : Bool → List ℕ → ℕ → List (Option ImageSurvey) → List ℕ
images_of all set_id n [] = []
images_of all set_id n (image ∷ images) =
    if all || is_of_set set_id (set_of image) then n ∷ images_of all set_id (n + 1) images
    else images_of all set_id (n + 1) images

-- The images on which the sections of a file begin, in the order of the sections, followed by all
-- images, or only by those of the set, each once. Section numbers have four digits.
unfoldable pub reading_order : List Located → List (Option ImageSurvey) → List ℕ → ℕ → Bool → List ℕ
reading_order located images set_id file all = followed_by (length images) []
    (section_images located set_id file 1 9999 ++ images_of all set_id 0 images)
