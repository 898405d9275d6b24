-- The rows of a survey about sections with more than one good copy.
use Rattle.std.specs.Prelude.{ℕ, ◌==◌, ◌||◌, not, if◌then◌else◌, List, [], ◌++◌, codes}
use Rattle.std.specs.Prelude.{decimal, Option, Some, None, is_some, get_or}
use Rattle.std.specs.List.{flat_map}
use Rattle.tape_run.specs.{SurveyCopies.Noted, Quoting.name_text, SurveyLine.trimmed_text}
use Rattle.tape_run.specs.SurveyCopies.{opponent_of}

-- the name of image number `image`, if it exists
abbrev pub name_at : List (List ℕ) → ℕ → List ℕ
name_at names image = name_text (get_or names image [])

-- the last columns: the name of the image whose copy differs, if any, and the result
abbrev pub other_cells : List (List ℕ) → Option ℕ → List ℕ
other_cells names None = codes "\t\tAGREE\n"
other_cells names (Some other) = codes "\t" ++ name_at names other ++ codes "\tCONFLICT\n"

-- the row of a section
abbrev pub copy_row : List (List ℕ) → Noted → List ℕ
copy_row names (key, note) =
    (codes "COPIES\t" ++ (trimmed_text key.set_id ++ (codes "\t" ++ (decimal key.file
    ++ (codes "\t" ++ (decimal key.sect ++ (codes "\t" ++ (decimal note.copies ++ codes "\t"))))))))
    ++ name_at names note.image ++ other_cells names (opponent_of note)

-- the rows of sections, without those that have only one good copy
abbrev pub copies_rows : List (List ℕ) → List Noted → List ℕ
copies_rows names notes = flat_map (λ x.
    if not (x.1.copies == 1) || is_some (opponent_of x.1) then copy_row names x else []) notes
