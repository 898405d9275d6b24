-- Numbers of files without any label found.
use Rattle.std.specs.Prelude.{ℕ, zero, suc, ◌-◌, Bool, if◌then◌else◌, List, [], ◌++◌, nat_lt}
use Rattle.std.specs.Prelude.{is_some, codes, decimal}
use Rattle.tape_run.specs.{Identifier.identifier_text, SurveyRead.Found}
use Rattle.tape_run.specs.SurveyFiles.{note_at, file_key}

-- a header label of the file was found
abbrev pub is_found : Found → List ℕ → ℕ → Bool
is_found d set_id file = is_some (note_at d.files (file_key set_id file))

-- the first number after the last file up to this number that was found, or 1
abbrev pub gap_first : Found → List ℕ → ℕ → ℕ
gap_first d set_id zero = 1
gap_first d set_id (suc n) = if is_found d set_id (suc n) then suc (suc n) else gap_first d set_id n

-- the numbers from `first` to `next - 1`
abbrev pub numbers_text : ℕ → ℕ → List ℕ
numbers_text first next =
    if nat_lt first (next - 1) then decimal first ++ (codes "-" ++ decimal (next - 1))
    else decimal first

-- the line of `unpack` for such numbers
abbrev pub numbers_line : List ℕ → ℕ → ℕ → List ℕ
numbers_line set_id first file = codes "FILE " ++ (identifier_text set_id ++ (codes " "
    ++ (numbers_text first file ++ codes " NOT FOUND\n")))
