-- The image on which each section begins.
use Rattle.std.specs.Prelude.{ℕ, ◌+◌, min, if◌then◌else◌, List, [], ◌∷◌, Option, Some, None}
use Rattle.std.specs.Prelude.{is_some}
use Rattle.indexmap.specs.IndexMap.{insert_entry}
use Rattle.tape_image.specs.Tape.{TapeItem}
use Rattle.tape_label.specs.declared.values.Head1.{Head1}
use Rattle.tape_run.specs.{declared.passing.Phase.Phase, declared.passing.Phase.TheVariants.Volume}
use Rattle.tape_run.specs.{declared.section.SectionKey.SectionKey, Noted.same_key, Noted.noted_all}
use Rattle.tape_run.specs.{Lacks.good_end, Lacks.entry_at, Lacks.key_at, SurveyGlance.head_in}
use Rattle.tape_run.specs.{Passing.Told, Passing.in_list, Onward.step}

-- a section, and the number of an image on which it begins
abbrev pub Located : Type 0
Located = SectionKey × ℕ

-- the number of the image after this one
abbrev pub next_image : ℕ → ℕ
next_image n = min (n + 1) 18446744073709551615

-- After a header label that was found on an image, if any: the section begins there, unless a good
-- copy of it was found before.
abbrev pub with_location : List Told → List Located → ℕ → Option Head1 → List Located
with_location sections located image None = located
with_location sections located image (Some head) =
    let key = key_at head.set_id head.sequence head.sect in
    if is_some (good_end (entry_at sections key)) then located
    else insert_entry same_key located key image

-- after the header labels among these items of an image, in this phase
abbrev pub locate_all : ℕ → List Told → List Located → Phase → List TapeItem → List Located
locate_all image sections located p [] = located
locate_all image sections located p (x ∷ xs) =
    locate_all image (noted_all sections (in_list (step p x).1))
    (with_location sections located image (head_in p x)) (step p x).0 xs

-- after those of an image
abbrev pub located_in : ℕ → List Told → List Located → List TapeItem → List Located
located_in image sections located items = locate_all image sections located Volume items
