-- The copy from which a section is read, and the facts in the copies about the file.
use Rattle.std.specs.Prelude.{◌≡◌, ℕ, ◌<◌, ◌≤◌, ◌==◌, ◌&&◌, not, max, Bool, false, if◌then◌else◌}
use Rattle.std.specs.Prelude.{List, [], ◌∷◌, ◌++◌, Option, Some, None, is_some}
use Rattle.std.specs.List.{AllByRecursion}
use Rattle.tape_set.specs.Lawful.{FileForm}
use Rattle.tape_run.specs.{declared.salvage.copies.SectionCopy.SectionCopy, SalvageCopies.rank}
use Rattle.tape_run.specs.SalvageWalk.{absent_form, form_or}

-- the copies of a section that are considered: the first one on each image
abbrev pub is_on : ℕ → Option ℕ → Bool
is_on image None = false
is_on image (Some last) = last == image

abbrev pub is_considered : ℕ → Option ℕ → SectionCopy → Bool
is_considered sect last c = (c.section.key.sect == sect) && not (is_on c.image last)

abbrev pub firsts : ℕ → Option ℕ → List SectionCopy → List SectionCopy
firsts sect last [] = []
firsts sect last (c ∷ cs) = if is_considered sect last c then c ∷ firsts sect (Some c.image) cs
    else firsts sect last cs

-- the first of these with the greatest rank, if there are any
abbrev pub IsBest : List SectionCopy → Option SectionCopy → Type 0
IsBest cs None = cs ≡ []
IsBest cs (Some b) = (front rest : List SectionCopy) × (cs ≡ front ++ b ∷ rest)
    × AllByRecursion (λ c. rank c < rank b) front × AllByRecursion (λ c. rank c ≤ rank b) rest

-- the form of the file's blocks that the first label with a form records
abbrev pub recorded_form : List SectionCopy → Option FileForm
recorded_form [] = None
recorded_form (c ∷ cs) = if is_some c.section.form then c.section.form else recorded_form cs

-- the form of the first section without HDR2
abbrev pub absent_form_in : List SectionCopy → Option FileForm
absent_form_in [] = None
absent_form_in (c ∷ cs) =
    if c.section.has_no_second then Some (absent_form c.section.file_id) else absent_form_in cs

-- the form of the file's blocks: that which a label records, or else that of a section without HDR2
abbrev pub form_of_file : List SectionCopy → Option FileForm
form_of_file cs = form_or (recorded_form cs) (absent_form_in cs)

-- the greatest number of a section
abbrev pub last_section : List SectionCopy → ℕ
last_section [] = 0
last_section (c ∷ cs) = max c.section.key.sect (last_section cs)
