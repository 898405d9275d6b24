-- The rows of a survey, for scripts. A tab separates the columns, and none contains one: each byte
-- of a name or an identifier that is not printable is replaced by a question mark.
use Rattle.std.specs.Prelude.{ℕ, zero, suc, ◌+◌, ◌-◌, nat_lt, Bool, if◌then◌else◌, List, [], ◌∷◌}
use Rattle.std.specs.Prelude.{◌++◌, codes, decimal, Option, Some, None, is_some, ◌||◌}
use Rattle.std.specs.List.{flat_map}
use Rattle.tape_label.specs.Formats.{letter}
use Rattle.tape_label.specs.declared.values.{Head1.Head1, Head2.Head2}
use Rattle.tape_run.specs.declared.survey.glance.First.{First}
use Rattle.tape_run.specs.declared.survey.{files.FileNote.FileNote, sets.Standing.Standing}
use Rattle.tape_run.specs.declared.survey.{files.FileKey.FileKey, padding.Padding.Padding}
use Rattle.tape_run.specs.declared.survey.view.ImageSurvey.{ImageSurvey}
use Rattle.tape_run.specs.declared.section.SectionKey.{SectionKey}
use Rattle.tape_run.specs.declared.survey.glance.First.TheVariants as firsts
use Rattle.tape_run.specs.declared.survey.sets.Standing.TheVariants.{Complete, Damaged, Behind}
use Rattle.tape_run.specs.declared.survey.sets.Standing.TheVariants.{Missing, Misfit}
use Rattle.tape_run.specs.{CheckLine.state_text, CheckLine.stop_text, Dates.date_of}
use Rattle.tape_run.specs.{Dates.date_cell, Passing.Told, SurveyCopies.dispute_at}
use Rattle.tape_run.specs.{SurveyFiles.note_at, SurveyFiles.file_key, Quoting.name_text}
use Rattle.tape_run.specs.{SurveyFiles.Filed, SurveyPadding.padding_text}
use Rattle.tape_run.specs.{SurveyLine.trimmed_text, SurveyLine.seen_text, SurveyRead.Found}
use Rattle.tape_run.specs.{SurveyWhole.is_sound, SurveyCompared.copies_rows}
use Rattle.tape_run.specs.SurveySets.{standing_of, clear_standing, flaw_in, is_mixed, file_problems}
use Rattle.tape_run.specs.SurveyGaps.{is_found, gap_first, numbers_text}
use Rattle.tape_run.specs.SurveyCopies.{Held, disputed, disputed_on}
use Rattle.tape_run.specs.{Lacks.SetFiles, Lacks.sets_from}
use Rattle.tape_run.specs.declared.survey.problems.Problem.{Problem}
use Rattle.tape_run.specs.declared.survey.problems.Problem.TheVariants as problems

-- the state of an image: whether it is in conflict, or else was read completely without damage
abbrev pub whole_cell : Bool → Bool → List ℕ
whole_cell disputed sound =
    if disputed then codes "CONFLICT" else if sound then codes "WHOLE" else codes "PARTIAL"

-- the volume, if the first item is a volume label
abbrev pub volume_cell : First → List ℕ
volume_cell (firsts.Volume label) = trimmed_text label.volume
volume_cell _ = []

-- the owner, if the first item is a volume label
abbrev pub owner_cell : First → List ℕ
owner_cell (firsts.Volume label) = trimmed_text label.owner
owner_cell _ = []

-- the set and the system, if a section was found
abbrev pub head_cells : Option Head1 → List ℕ
head_cells (Some head) =
    trimmed_text head.set_id ++ (codes "\t" ++ trimmed_text head.implementation)
head_cells None = codes "\t"

-- the description of an image, which has a good copy of a section whose good copies differ or not,
-- at last in words; or that it was not opened
abbrev pub sight_cells : Option ImageSurvey → Option SectionKey → List ℕ
sight_cells (Some s) key =
    (codes "\t" ++ (whole_cell (is_some key) (is_sound s) ++ (codes "\t"
    ++ (volume_cell s.glance.first ++ (codes "\t" ++ (head_cells s.glance.head ++ (codes "\t"
    ++ (decimal s.glance.items ++ (codes "\t" ++ (decimal s.glance.files ++ (codes "\t"
    ++ decimal s.glance.bad))))))))))) ++ (codes "\t" ++ (stop_text s.stop ++ (codes "\t"
    ++ (owner_cell s.glance.first ++ (codes "\t" ++ (seen_text (codes "; ") s key
    ++ codes "\n"))))))
sight_cells None key = codes "\tNOT OPENED\t\t\t\t\t\t\t\t\tnot opened\n"

-- the row of an image
abbrev pub image_row : List ℕ → Option ImageSurvey → Option SectionKey → List ℕ
image_row name sight key = codes "IMAGE\t" ++ name_text name ++ sight_cells sight key

-- the row of a section, with a word if its trailer label ends the file
abbrev pub section_row : Told → List ℕ
section_row (key, entry) =
    (codes "SECTION\t" ++ (trimmed_text key.set_id ++ (codes "\t" ++ (decimal key.file
    ++ (codes "\t" ++ decimal key.sect))))) ++ (codes "\t" ++ (trimmed_text entry.volume
    ++ (codes "\t" ++ (decimal entry.blocks ++ (codes "\t" ++ (state_text entry.state
    ++ (codes "\t" ++ ((if entry.eof then codes "EOF" else []) ++ codes "\n"))))))))

-- the facts about a file in its labels
abbrev pub known_cells : Option FileNote → List ℕ
known_cells (Some note) =
    trimmed_text note.head.file_id ++ (codes "\t" ++ date_cell (date_of note.head.created))
known_cells None = codes "\t"

-- the state of a file, with the number of a section and a volume
abbrev pub standing_cells : Standing → List ℕ
standing_cells Complete = codes "COMPLETE\t\t"
standing_cells (Damaged sect entry) = state_text entry.state ++ (codes "\t" ++ (decimal sect
    ++ (codes "\t" ++ trimmed_text entry.volume)))
standing_cells (Behind sect volume) =
    codes "MISSING\t" ++ (decimal sect ++ (codes "\t" ++ trimmed_text volume))
standing_cells (Missing sect) = codes "MISSING\t" ++ (decimal sect ++ codes "\t")
standing_cells (Misfit sect) = codes "FORMAT\t" ++ (decimal sect ++ codes "\t")

-- labels of different files were found under its number, or good copies of a section differ
abbrev pub conflict_cell : Bool → List ℕ
conflict_cell differs = if differs then codes "\tCONFLICT\t" else codes "\t\t"

-- what was found of a file: its labels, its state, and whether labels or copies differ
abbrev pub found_cells : Option FileNote → Standing → Bool → List ℕ
found_cells note standing disputed = known_cells note ++ (codes "\t"
    ++ (standing_cells standing ++ conflict_cell (is_mixed note || disputed)))

-- the row of a file with these columns
abbrev pub file_text : List ℕ → ℕ → List ℕ → List ℕ
file_text set_id file found = codes "FILE\t" ++ (trimmed_text set_id
    ++ (codes "\t" ++ (decimal file ++ (codes "\t" ++ found))))

-- the columns of a file, up to the last one
abbrev pub file_cells : Found → List ℕ → ℕ → List ℕ
file_cells d set_id file = let key = file_key set_id file in
    file_text set_id file (found_cells (note_at d.files key)
    (clear_standing (flaw_in d set_id file) (standing_of d.sections set_id file))
    (is_some (dispute_at d.copies key)))

-- the record format, the block length and the record length, if a second label states them
abbrev pub form_by : Option Head2 → List ℕ
form_by (Some form) = codes "\t" ++ letter form.format ∷ (codes "\t"
    ++ (decimal form.block_len ++ (codes "\t" ++ decimal form.rec_len)))
form_by None = codes "\t\t\t"

-- those of a file
abbrev pub form_cells : Option FileNote → List ℕ
form_cells (Some note) = form_by note.form
form_cells None = codes "\t\t\t"

-- a damaged section, or missing ones, with the state
abbrev pub problem_cell : Problem → List ℕ
problem_cell (problems.Damaged sect entry) =
    decimal sect ++ (codes ":" ++ (state_text entry.state ++ codes ";"))
problem_cell (problems.Missing first next) = numbers_text first next ++ codes ":MISSING;"

-- the row of a file, with a column for all sections that are damaged or missing
abbrev pub file_row : Found → List ℕ → ℕ → List ℕ
file_row d set_id file = (file_cells d set_id file
    ++ flat_map problem_cell (file_problems d.sections set_id file))
    ++ (form_cells (note_at d.files (file_key set_id file)) ++ codes "\n")

-- the row for the file numbers from `first` to `file - 1`, for which no label was found
abbrev pub gap_row : List ℕ → ℕ → ℕ → List ℕ
gap_row set_id first file = codes "FILE\t" ++ (trimmed_text set_id ++ (codes "\t"
    ++ (numbers_text first file ++ codes "\t\t\tMISSING\t1\t\t\t1:MISSING;\t\t\t\n")))

-- the row for a file, preceded by that for the numbers since the last file that was found; nothing
-- if the file was not found
abbrev pub found_row : Found → List ℕ → ℕ → List ℕ
found_row d set_id file =
    if is_found d set_id file
    then (if nat_lt (gap_first d set_id (file - 1)) file
    then gap_row set_id (gap_first d set_id (file - 1)) file else [])
    ++ file_row d set_id file
    else []

-- the rows for n files of a set, from this one on
abbrev pub file_rows : Found → List ℕ → ℕ → ℕ → List ℕ
file_rows d set_id file zero = []
file_rows d set_id file (suc n) = found_row d set_id file ++ file_rows d set_id (file + 1) n

-- the rows for the files of a set, up to the greatest number of one
abbrev pub set_rows : Found → SetFiles → List ℕ
set_rows d x = file_rows d x.0 1 x.1

-- all sets that were found, in the order in which they were found first
abbrev pub sets_rows : Found → List ℕ
sets_rows d = flat_map (set_rows d) (sets_from [] d.sections)

-- the rows of images, of which the first has this number, with the good copies of sections whose
-- good copies differ
abbrev pub image_rows : List Held → ℕ → List (List ℕ) → List (Option ImageSurvey) → List ℕ
image_rows held image [] sights = []
image_rows held image (name ∷ names) [] = []
image_rows held image (name ∷ names) (sight ∷ sights) =
    image_row name sight (disputed_on held image) ++ image_rows held (image + 1) names sights

-- the row of a file with this padding, or nothing if it has none
abbrev pub padded_row : FileKey → Option Padding → List ℕ
padded_row key None = []
padded_row key (Some padding) = codes "PADDED\t" ++ (trimmed_text key.set_id ++ (codes "\t"
    ++ (decimal key.file ++ (codes "\t" ++ (padding_text padding ++ codes "\n")))))

-- the rows of the files with padding
abbrev pub padded_rows : List Filed → List ℕ
padded_rows notes = flat_map (λ f. padded_row f.0 f.1.padding) notes

-- the rows of the survey of images with these names, on which this was found
abbrev pub survey_rows : List (List ℕ) → List (Option ImageSurvey) → Found → List ℕ
survey_rows names sights d = image_rows (disputed d.copies) 0 names sights
    ++ (flat_map section_row d.sections ++ (sets_rows d
    ++ (copies_rows names d.copies.notes ++ padded_rows d.files.notes)))
