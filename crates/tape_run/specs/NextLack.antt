-- The missing sections of a catalogue, one after another.
use Rattle.std.specs.Prelude.{◌≡◌, ℕ, ◌+◌, ◌-◌, List, [], ◌∷◌, ◌++◌, drop, Option, Some, None}
use Rattle.tape_run.specs.{declared.section.Lack.Lack, Passing.Told}
use Rattle.tape_run.specs.Lacks.{SetFiles, file_lacks, set_lacks}

-- the missing sections of these sets, of the first of which this many files are left out
abbrev pub lacks_after : List Told → ℕ → List SetFiles → List Lack
lacks_after c file [] = []
lacks_after c file (x ∷ sets) = file_lacks c x.0 (file + 1) (x.1 - file) ++ set_lacks c sets

-- the missing sections after the first files of the set at an index
abbrev pub lacks_from : List Told → List SetFiles → ℕ → ℕ → List Lack
lacks_from c sets place file = lacks_after c file (drop place sets)

-- the next missing section with the index of its set; `None` if no section is missing there
abbrev pub IsNext : List Told → List SetFiles → ℕ → ℕ → Option (ℕ × Lack) → Type 0
IsNext c sets place file None = lacks_from c sets place file ≡ []
IsNext c sets place file (Some next) =
    lacks_from c sets place file ≡ next.1 ∷ lacks_from c sets next.0 next.1.file
