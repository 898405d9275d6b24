-- Which files are unpacked from images, and under which names.
use Rattle.std.specs.Prelude.{◌≡◌, ◌==◌, ◌&&◌, ◌||◌, not, false, ℕ, zero, suc, ◌+◌, ◌-◌}
use Rattle.std.specs.Prelude.{◌/◌, ◌%◌}
use Rattle.std.specs.Prelude.{nat_le, nat_lt, Bool, if◌then◌else◌, List, [], ◌∷◌, ◌++◌, length}
use Rattle.std.specs.Prelude.{take, Option, Some, None, option_map, is_some, codes, decimal, get_or}
use Rattle.std.specs.{List.flat_map, Option.option_or}
use Rattle.tape_label.specs.declared.values.Head1.{Head1}
use Rattle.tape_set.specs.declared.position.Want.{Want}
use Rattle.tape_run.specs.declared.survey.glance.{First.First, First.TheVariants.Volume}
use Rattle.tape_run.specs.declared.survey.{view.ImageSurvey.ImageSurvey, files.FileNote.FileNote}
use Rattle.tape_run.specs.declared.unpack.{SetFile.SetFile, FoundFiles.FoundFiles}
use Rattle.tape_run.specs.{Lacks.SetFiles, Lacks.sets_from, Lacks.lack_of, Quoting.hex}
use Rattle.tape_run.specs.{Reeling.Mounting, SurveyCopies.dispute_at, SurveyLine.trimmed_len}
use Rattle.tape_run.specs.SurveyCopies.{opponents_at}
use Rattle.tape_run.specs.{SurveyWhole.is_whole_sight, SurveyFiles.note_at, SurveyFiles.file_key}
use Rattle.tape_run.specs.SurveyFiles.{reads_wide, flaw_of, flaw_section}
use Rattle.tape_run.specs.declared.survey.fits.Flaw.{Flaw}
use Rattle.tape_run.specs.SurveyRead.{Found, nothing_found, AreViewed}

-- the first section that is complete on no image, or else the one that is not readable for this
-- reason
abbrev pub lack_with : Option Flaw → Option ℕ → Option ℕ
lack_with (Some flaw) None = Some (flaw_section flaw)
lack_with flaw lack = lack

-- the file that is described by these facts about its labels; without a label there is none. It is
-- in conflict if its labels differ, or good copies of a section, and then two images are named. It
-- may be read in the wider reading unless a section has lost its second label.
abbrev pub file_by : Found → List ℕ → ℕ → Option FileNote → List SetFile
file_by d set_id file None = []
file_by d set_id file (Some note) = record {
  set_id = set_id;
  file = file;
  file_id = note.head.file_id;
  created = note.head.created;
  differs = is_some note.conflict || is_some (dispute_at d.copies (file_key set_id file));
  conflict = option_or note.conflict (opponents_at d.copies (file_key set_id file));
  lacks = lack_with (flaw_of note) (lack_of d.sections set_id file);
  wide = reads_wide note;
} ∷ []

-- the file with this number, if a label of it was found
abbrev pub file_at : Found → List ℕ → ℕ → List SetFile
file_at d set_id file = file_by d set_id file (note_at d.files (file_key set_id file))

-- the files found under n numbers of a set, from this one on
abbrev pub files_from : Found → List ℕ → ℕ → ℕ → List SetFile
files_from d set_id file zero = []
files_from d set_id file (suc n) = file_at d set_id file ++ files_from d set_id (file + 1) n

-- the files of sets, each from 1 to the greatest number that was found
abbrev pub set_files : Found → List SetFiles → List SetFile
set_files d sets = flat_map (λ x. files_from d x.0 1 x.1) sets

-- the files of all sets that were found, in the order in which they were found first
abbrev pub files_of : Found → List SetFile
files_of d = set_files d (sets_from [] d.sections)

-- the image was opened, and is a complete volume in its order, in formats that are read
abbrev pub is_read : Option ImageSurvey → Bool
is_read None = false
is_read (Some sight) = is_whole_sight sight

-- the set of the section that begins first on an image, if any
abbrev pub set_of : Option ImageSurvey → Option (List ℕ)
set_of None = None
set_of (Some sight) = option_map (λ head. head.set_id) sight.glance.head

-- whether a section is an earlier one of the file than the part `want`
abbrev pub is_earlier : Want → Option Head1 → Bool
is_earlier want None = false
is_earlier want (Some head) = (head.sequence == want.file) && nat_lt head.sect want.sect

-- whether only one section begins on an image, an earlier one of the file than the part `want`
abbrev pub is_passed : Want → Option ImageSurvey → Bool
is_passed want None = false
is_passed want (Some sight) = (sight.glance.files == 1) && is_earlier want sight.glance.head

-- the volume identifier of an image that begins with this item
abbrev pub volume_in : First → Option (List ℕ)
volume_in (Volume label) = Some label.volume
volume_in _ = None

-- the volume identifier of an image, if it was opened and begins with a volume label
abbrev pub volume_of : Option ImageSurvey → Option (List ℕ)
volume_of None = None
volume_of (Some sight) = volume_in sight.glance.first

-- All images of a source were opened and read, one after another, and this was found. Each is this,
-- and was read up to where it stops.
pub record ViewsAll {L R : Type 0} (size : L → ℕ) (gives : Mounting L R)
    (remaining : R → Option (List ℕ)) (shelf left : L) (found : Found)
    (sights : List (Option ImageSurvey)) : Type 0 where
  pub all : length sights ≡ size shelf
  pub viewed : AreViewed gives remaining shelf 0 sights nothing_found left found

-- These are the files of all sets that were found on them; also recorded are what each image is,
-- whether every image was read completely, the image on which each section begins, the sections,
-- and the labels of the files.
pub record FilesOn {L R : Type 0} (size : L → ℕ) (gives : Mounting L R)
    (remaining : R → Option (List ℕ)) (shelf left : L) (met : FoundFiles) : Type 0 where
  pub found : Found
  pub viewed : ViewsAll size gives remaining shelf left found met.images
  pub files : met.files ≡ files_of found
  pub whole : met.whole ≡ found.whole
  pub locations : met.locations.entries ≡ found.locations
  pub sections : met.sections.entries ≡ found.sections
  pub notes : met.notes.entries ≡ found.files.notes

-- ---- names

-- a digit or a capital letter
abbrev pub is_plain : ℕ → Bool
is_plain b = (nat_le 48 b && nat_le b 57) || (nat_le 65 b && nat_le b 90)

-- a printable character that every file system keeps: any except `"`, `*`, `/`, `:`, `<`, `>`, `?`,
-- `\`, `|`
abbrev pub is_kept : ℕ → Bool
is_kept b =
    (nat_le 32 b && nat_le b 126)
    && not ((b == 34) || (b == 42) || (b == 47) || (b == 58) || (b == 60) || (b == 62) || (b == 63)
    || (b == 92) || (b == 124))

-- a byte as `%` and its two hexadecimal digits
abbrev pub escape : ℕ → List ℕ
escape b = 37 ∷ hex (b / 16) ∷ hex (b % 16) ∷ []

-- a byte of a set identifier
abbrev pub escaped : ℕ → List ℕ
escaped b = if is_plain b then b ∷ [] else if b == 32 then codes "_" else escape b

-- a set identifier
abbrev pub escaped_all : List ℕ → List ℕ
escaped_all set_id = flat_map escaped set_id

-- a byte of a file identifier that is followed by another one
abbrev pub fit : ℕ → List ℕ
fit b = if is_kept b && not (b == 37) then b ∷ [] else escape b

-- the last byte, which is neither a space nor a full stop: some file systems drop these at the end
abbrev pub fit_last : ℕ → List ℕ
fit_last b = if (b == 32) || (b == 46) then escape b else fit b

-- a file identifier without trailing spaces, or one space if it has no other characters
abbrev pub fit_text : List ℕ → List ℕ
fit_text bytes = let n = trimmed_len bytes in
    if n == 0 then fit_last 32
    else flat_map fit (take (n - 1) bytes) ++ fit_last (get_or bytes (n - 1) 32)

-- the name under which a file is unpacked
abbrev pub file_name : List ℕ → ℕ → List ℕ → List ℕ
file_name set_id file file_id =
    escaped_all set_id ++ codes "." ++ decimal file ++ codes "." ++ fit_text file_id
