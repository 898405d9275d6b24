-- What a survey finds of sets and their files.
use Rattle.std.specs.Prelude.{ℕ, zero, suc, ◌+◌, ◌-◌, ◌&&◌, ◌||◌, not, Bool, true, false}
use Rattle.std.specs.Prelude.{if◌then◌else◌, List, [], ◌∷◌, Option, Some, None, is_none, is_some}
use Rattle.tape_run.specs.declared.survey.sets.Standing.TheVariants.{Complete, Damaged, Behind}
use Rattle.tape_run.specs.{declared.section.Entry.Entry, declared.survey.files.FileNote.FileNote}
use Rattle.tape_run.specs.{declared.survey.sets.Standing.Standing, Noted.is_good, Passing.Told}
use Rattle.tape_run.specs.declared.survey.sets.Standing.TheVariants.{Missing, Misfit}
use Rattle.tape_run.specs.declared.survey.problems.Problem.{Problem}
use Rattle.tape_run.specs.{SurveyCopies.is_agreed}
use Rattle.tape_run.specs.{SurveyProblems.problems_in, SurveyRead.Found}
use Rattle.tape_run.specs.Lacks.{entry_at, key_at, good_end, lack_of, found_all}
use Rattle.tape_run.specs.SurveyFiles.{Filed, note_at, file_key, any_differs, any_lost, any_misfit}
use Rattle.tape_run.specs.SurveyFiles.{flaw_of, flaw_section}
use Rattle.tape_run.specs.declared.survey.fits.{Flaw.Flaw, Flaw.TheVariants.Lost}

-- the state of a file without this section; the entries are those of it and of the one before it
abbrev pub state_without : ℕ → Option Entry → Option Entry → Standing
state_without sect (Some entry) before = Damaged sect entry
state_without sect None (Some before) = Behind sect before.volume
state_without sect None None = Missing sect

-- the state of a file with this missing section
abbrev pub standing_by : List Told → List ℕ → ℕ → Option ℕ → Standing
standing_by c set_id file None = Complete
standing_by c set_id file (Some sect) = state_without sect (entry_at c (key_at set_id file sect))
    (entry_at c (key_at set_id file (sect - 1)))

-- the state of a file: it is complete if none of its sections is missing from the catalogue
abbrev pub standing_of : List Told → List ℕ → ℕ → Standing
standing_of c set_id file = standing_by c set_id file (lack_of c set_id file)

-- the state of a file that is not readable for this reason, if there is one
abbrev pub clear_standing : Option Flaw → Standing → Standing
clear_standing (Some Lost) Complete = Missing 1
clear_standing (Some flaw) Complete = Misfit (flaw_section flaw)
clear_standing flaw standing = standing

-- labels of different files were found
abbrev pub is_mixed : Option FileNote → Bool
is_mixed (Some note) = is_some note.conflict
is_mixed None = false

-- nothing of the file is missing
abbrev pub is_whole_file : List Told → List ℕ → ℕ → Bool
is_whole_file c set_id file = is_none (lack_of c set_id file)

-- the damaged and missing sections of a file, unless it is complete
unfoldable pub file_problems : List Told → List ℕ → ℕ → List Problem
file_problems c set_id file = if is_whole_file c set_id file then [] else problems_in c set_id file

-- why the file of which this is known is not readable, if there is a reason
abbrev pub flaw_by : Option FileNote → Option Flaw
flaw_by None = None
flaw_by (Some note) = flaw_of note

-- the same for this file
abbrev pub flaw_in : Found → List ℕ → ℕ → Option Flaw
flaw_in d set_id file = flaw_by (note_at d.files (file_key set_id file))

-- it is known that this section ends its file
abbrev pub is_known_end : Option Bool → Bool
is_known_end None = false
is_known_end (Some end) = end

-- whether one of these sections of a file, n from this one on, is good and ends the file
abbrev pub ends_among : List Told → List ℕ → ℕ → ℕ → ℕ → Bool
ends_among c set_id file sect zero = false
ends_among c set_id file sect (suc n) =
    is_known_end (good_end (entry_at c (key_at set_id file sect)))
    || ends_among c set_id file (sect + 1) n

-- whether a good section with a lower number ends the file of a section
abbrev pub follows_end : List Told → Told → Bool
follows_end c t = ends_among c t.0.set_id t.0.file 0 t.0.sect

-- none of these sections follows the end of its file
abbrev pub none_follows : List Told → List Told → Bool
none_follows c [] = true
none_follows c (t ∷ ts) = not (follows_end c t) && none_follows c ts

-- each of these sections is good
abbrev pub all_good : List Told → Bool
all_good [] = true
all_good (t ∷ ts) = is_good t.1.state && all_good ts

-- no second label of these files is lost, and each block of a good section is in its format
abbrev pub is_flawless : List Filed → Bool
is_flawless fs = not (any_lost fs) && not (any_misfit fs)

-- Nothing is missing, and everything was read: all images are complete, each file that was found is
-- complete, each section has a good copy, none follows the end of its file, no two files were found
-- under one number, no good copies differ, no second label is lost, each block is in its format.
abbrev pub is_all : Found → Bool
is_all d = d.whole && (found_all d.sections && (all_good d.sections
    && (not (any_differs d.files.notes) && (is_agreed d.copies.conflicts
    && (is_flawless d.files.notes && none_follows d.sections d.sections)))))
