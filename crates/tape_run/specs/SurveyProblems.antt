-- The sections of a file that are damaged or missing.
use Rattle.std.specs.Prelude.{ℕ, zero, suc, ◌+◌, ◌-◌, nat_lt, Bool, true, false, ◌||◌}
use Rattle.std.specs.Prelude.{if◌then◌else◌, List, [], ◌∷◌, ◌++◌, Option, Some, None}
use Rattle.tape_run.specs.{declared.section.Entry.Entry, declared.section.SectionState.SectionState}
use Rattle.tape_run.specs.declared.section.SectionState.TheVariants.{Cut}
use Rattle.tape_run.specs.declared.survey.problems.Problem.{Problem}
use Rattle.tape_run.specs.declared.survey.problems.Problem.TheVariants.{Damaged, Missing}
use Rattle.tape_run.specs.{Lacks.entry_at, Lacks.key_at, Noted.is_good, Passing.Told}

-- a section that was found, if it is damaged
abbrev pub found_problem : ℕ → Entry → List Problem
found_problem sect entry = if is_good entry.state then [] else Damaged sect entry ∷ []

-- a section with this entry, if it is damaged, after the missing sections before it, which begin
-- with number `first`
abbrev pub known_problems : ℕ → ℕ → Option Entry → List Problem
known_problems first sect (Some entry) =
    (if nat_lt first sect then Missing first sect ∷ [] else []) ++ found_problem sect entry
known_problems first sect None = []

-- the number after a section's, if it was found
abbrev pub first_after : ℕ → ℕ → Option Entry → ℕ
first_after first sect (Some entry) = sect + 1
first_after first sect None = first

-- no trailer label of the section was found
abbrev pub is_cut : SectionState → Bool
is_cut Cut = true
is_cut _ = false

-- no section is known to follow the last one that was found: it ends the file, or has no trailer
abbrev pub ends : Option Entry → Bool
ends (Some entry) = entry.eof || is_cut entry.state
ends None = false

-- n sections of a file, beginning with section `sect`, and the section after the last one that was
-- found, if one follows; sections from number `first` up to `sect` were not found
abbrev pub problems_from : List Told → List ℕ → ℕ → ℕ → ℕ → ℕ → List Problem
problems_from c set_id file first sect zero =
    if ends (entry_at c (key_at set_id file (first - 1))) then []
    else Missing first (first + 1) ∷ []
problems_from c set_id file first sect (suc n) =
    let entry = entry_at c (key_at set_id file sect) in
    known_problems first sect entry
    ++ problems_from c set_id file (first_after first sect entry) (sect + 1) n

-- each damaged section of a file, and the sections that are missing before or after the sections
-- found
unfoldable pub problems_in : List Told → List ℕ → ℕ → List Problem
problems_in c set_id file = problems_from c set_id file 1 1 9999
