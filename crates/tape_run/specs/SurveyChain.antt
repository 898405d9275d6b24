-- The volumes of a set, in the order of its sections.
use Rattle.std.specs.Prelude.{ℕ, zero, suc, ◌+◌, ◌-◌, nat_lt, Bool, true, false, not}
use Rattle.std.specs.Prelude.{if◌then◌else◌, List, [], ◌∷◌, ◌++◌, Option, Some, None}
use Rattle.std.specs.Str.{bytes_eq}
use Rattle.tape_run.specs.declared.{section.Entry.Entry, survey.volumes.VolumeItem.VolumeItem}
use Rattle.tape_run.specs.declared.survey.volumes.VolumeItem.TheVariants.{Named, MissingFirst}
use Rattle.tape_run.specs.declared.survey.volumes.VolumeItem.TheVariants.{MissingAfter}
use Rattle.tape_run.specs.Lacks.{SetFiles, entry_at, key_at}
use Rattle.tape_run.specs.{Passing.Told, SurveyGaps.is_found}
use Rattle.tape_run.specs.{SurveyProblems.first_after, SurveyProblems.ends, SurveyRead.Found}

-- ---- the chain of a set: the volume of each section, in order, and `None` where sections are
-- missing

-- `None` if sections are missing, otherwise nothing
abbrev pub gap_if : Bool → List (Option (List ℕ))
gap_if missing = if missing then None ∷ [] else []

-- the volume of a section, if it was found, preceded by `None` if sections from number `first` on
-- are missing before it
abbrev pub link_of : ℕ → ℕ → Option Entry → List (Option (List ℕ))
link_of first sect (Some entry) = gap_if (nat_lt first sect) ++ Some entry.volume ∷ []
link_of first sect None = []

-- the section was found, and ends its file
abbrev pub is_last : Option Entry → Bool
is_last (Some entry) = entry.eof
is_last None = false

-- the number of the first section that may be missing after section `sect`, unless that section
-- ends the file
abbrev pub next_first : ℕ → ℕ → Option Entry → Option ℕ
next_first first sect entry = if is_last entry then None else Some (first_after first sect entry)

-- The volumes of n sections of a file, from section `sect` on, up to a section that ends the file;
-- sections from number `first` up to `sect` were not found. After the last section that was found a
-- section is missing, unless that one ends the file or is truncated.
abbrev pub sections_chain : List Told → List ℕ → ℕ → ℕ → ℕ → ℕ → List (Option (List ℕ))
sections_chain c set_id file first sect zero =
    gap_if (not (ends (entry_at c (key_at set_id file (first - 1)))))
sections_chain c set_id file first sect (suc n) =
    let entry = entry_at c (key_at set_id file sect) in
    link_of first sect entry ++ (if is_last entry then []
    else sections_chain c set_id file (first_after first sect entry) (sect + 1) n)

-- the volumes of all sections of a file
unfoldable pub found_chain : List Told → List ℕ → ℕ → List (Option (List ℕ))
found_chain c set_id file = sections_chain c set_id file 1 1 9999

-- the volumes of a file, or `None` if no label of it was found
abbrev pub file_chain : Found → List ℕ → ℕ → List (Option (List ℕ))
file_chain d set_id file =
    if is_found d set_id file then found_chain d.sections set_id file else None ∷ []

-- the volumes of n files of a set, from file `file` on
abbrev pub files_chain : Found → List ℕ → ℕ → ℕ → List (Option (List ℕ))
files_chain d set_id file zero = []
files_chain d set_id file (suc n) = file_chain d set_id file ++ files_chain d set_id (file + 1) n

-- ---- the volumes of a chain: each volume that differs from the one before it, and a missing
-- volume where sections are missing between two volumes, before the first or after the last

-- the two volumes are the same
abbrev pub is_same : Option (List ℕ) → List ℕ → Bool
is_same None v = false
is_same (Some u) v = bytes_eq u v

-- the entry for a missing volume after a volume, if there is one
abbrev pub missing_after : Option (List ℕ) → VolumeItem
missing_after None = MissingFirst
missing_after (Some v) = MissingAfter v

-- that entry, if a volume is missing
abbrev pub missing_if : Bool → Option (List ℕ) → List VolumeItem
missing_if missing last = if missing then missing_after last ∷ [] else []

-- the entries for a volume after another one, if sections are or are not missing between the two
abbrev pub items_to : Option (List ℕ) → Bool → List ℕ → List VolumeItem
items_to last missing v = if is_same last v then [] else missing_if missing last ++ Named v ∷ []

-- the volumes of the rest of a chain
abbrev pub volumes_from : Option (List ℕ) → Bool → List (Option (List ℕ)) → List VolumeItem
volumes_from last missing [] = missing_if missing last
volumes_from last missing (None ∷ xs) = volumes_from last true xs
volumes_from last missing (Some v ∷ xs) = items_to last missing v ++ volumes_from (Some v) false xs

-- the volumes of a set
abbrev pub volumes_of : Found → SetFiles → List VolumeItem
volumes_of d x = volumes_from None false (files_chain d x.0 1 x.1)
