-- The facts about files in their header labels.
use Rattle.std.specs.Prelude.{ℕ, ◌==◌, ◌&&◌, ◌||◌, not, if◌then◌else◌, Bool, true, false, List, []}
use Rattle.std.specs.Prelude.{◌∷◌, unwrap_or, slice_get}
use Rattle.std.specs.Prelude.{Option, Some, None, is_some, option_map, Result, Ok}
use Rattle.std.specs.{Map.lookup, Str.bytes_eq}
use Rattle.indexmap.specs.IndexMap.{insert_entry}
use Rattle.tape_image.specs.Tape.{TapeItem, block, bad, mark}
use Rattle.tape_label.specs.{declared.values.Head1.Head1, declared.values.Head2.Head2}
use Rattle.tape_label.specs.declared.values.Kind.{Kind}
use Rattle.tape_label.specs.declared.values.Kind.TheVariants.{Hdr2, Eof2, Eov2}
use Rattle.tape_label.specs.WideHead2.{is_further_header}
use Rattle.tape_label.specs.{declared.label.LabelFault.LabelFault, Kinds.kind_at}
use Rattle.tape_label.specs.Reading.{wide_head2_at}
use Rattle.tape_run.specs.{declared.survey.files.FileKey.FileKey, declared.passing.Phase.Phase}
use Rattle.tape_run.specs.declared.survey.{files.FileNote.FileNote, files.FirstHead.FirstHead}
use Rattle.tape_run.specs.declared.survey.forms.FirstForm.{FirstForm}
use Rattle.tape_label.specs.Formats.{letter}
use Rattle.tape_run.specs.{Onward.step, Noted.same_key, Lacks.key_at}
use Rattle.tape_run.specs.{Passing.Told, SurveyFits.no_fit, SurveyFits.fit_in}
use Rattle.tape_run.specs.{SurveyFits.misfit_of, SurveyFits.misfit_in, SurveyPadding.padding_in}
use Rattle.tape_run.specs.SurveyPadding.{padding_if}
use Rattle.tape_run.specs.declared.section.SectionState.{SectionState}
use Rattle.tape_run.specs.declared.section.SectionState.TheVariants.{Good, Bad, Count, Cut}
use Rattle.tape_run.specs.declared.survey.{fits.Fit.Fit, padding.Padding.Padding}
use Rattle.tape_run.specs.declared.survey.fits.{Misfit.Misfit, Flaw.Flaw}
use Rattle.tape_run.specs.declared.survey.fits.Flaw.TheVariants.{Lost, Unsupported, Misfits}
use Rattle.tape_run.specs.declared.section.SectionKey.{SectionKey}
use Rattle.tape_run.specs.declared.passing.Phase.TheVariants.{Volume, Second, Trailers}
use Rattle.tape_run.specs.declared.survey.forms.FormNote.{FormNote}
use Rattle.tape_run.specs.declared.survey.forms.FormNote.TheVariants.{Stated, Absent, Trailer}
use Rattle.tape_run.specs.declared.survey.forms.Trailing.{Trailing}
use Rattle.tape_run.specs.declared.survey.forms.Trailing.TheVariants.{Found, Doubted, Closed}
use Rattle.tape_run.specs.SurveyGlance.{label_in}
use Rattle.std.specs.Option.{option_or}

-- a file, and its record
abbrev pub Filed : Type 0
Filed = FileKey × FileNote

-- a section, and its header label that was found first
abbrev pub Headed : Type 0
Headed = SectionKey × FirstHead

-- a section, and its second label that was found first
abbrev pub Formed : Type 0
Formed = SectionKey × FirstForm

-- the files of which header labels were found, the first label and the first second label of each
-- section, the file of the header label that was read last, and the section that is being read
pub record Labelled : Type 0 where
  pub notes : List Filed
  pub heads : List Headed
  pub forms : List Formed
  pub reading : Option FileKey
  pub fit : Fit

-- no label was found
abbrev pub no_labels : Labelled
no_labels = record { notes = []; heads = []; forms = []; reading = None; fit = no_fit }

-- one file
abbrev pub same_file : FileKey → FileKey → Bool
same_file a b = bytes_eq a.set_id b.set_id && (a.file == b.file)

-- Labels with one file number belong to different files: their file identifiers differ, or they are
-- of one section, and their creation dates or generations differ. The sections of one file may have
-- been created on different days.
abbrev pub is_other : Head1 → Head1 → Bool
is_other a b = not (bytes_eq a.file_id b.file_id)
    || ((a.sect == b.sect)
    && (not (bytes_eq a.created b.created) || not (bytes_eq a.generation b.generation)))

-- the image with the first label of the section, if that is of another file than this label
abbrev pub other_section : Option FirstHead → Head1 → Option ℕ
other_section None head = None
other_section (Some first) head = if is_other first.head head then Some first.image else None

-- that image, or else the one with the first label of the file, if that is of another file
abbrev pub opponent : FileNote → Option FirstHead → Head1 → Option ℕ
opponent note first head = option_or (other_section first head)
    (if is_other note.head head then Some note.image else None)

-- the record of a file after one more label, on this image; `first` is the label of its section
-- that was found before
abbrev pub note_of : Option FileNote → Option FirstHead → ℕ → Head1 → FileNote
note_of None first image head = record {
  head = head;
  image = image;
  form = None;
  blocking = 32;
  absent = false;
  trailers = false;
  doubted = false;
  bare = false;
  misfit = None;
  padding = None;
  conflict = None;
}
note_of (Some note) first image head = record note {
  conflict = option_or note.conflict (option_map (λ other. (other, image))
      (opponent note first head));
}

-- the file of a header label
abbrev pub file_key : List ℕ → ℕ → FileKey
file_key set_id file = record { set_id = set_id; file = file }

-- the record of a file
abbrev pub note_at : Labelled → FileKey → Option FileNote
note_at files key = lookup (same_file key) files.notes

-- the section of a header label
abbrev pub section_of : Head1 → SectionKey
section_of head = key_at head.set_id head.sequence head.sect

-- the label of its section that was found first
abbrev pub first_in : List Headed → Head1 → Option FirstHead
first_in heads head = lookup (same_key (section_of head)) heads

-- the first label of each section after one more label, on this image, of a section whose first
-- label is given
abbrev pub with_first : List Headed → ℕ → Head1 → Option FirstHead → List Headed
with_first heads image head (Some first) = heads
with_first heads image head None =
    insert_entry same_key heads (section_of head) (record { image = image; head = head })

-- the record of each file after one more label, on this image, of a section whose first label is
-- given: a new file goes last
abbrev pub with_note : List Filed → Option FirstHead → ℕ → Head1 → List Filed
with_note notes first image head =
    let key = file_key head.set_id head.sequence in
    insert_entry same_file notes key (note_of (lookup (same_file key) notes) first image head)

-- the files after one more header label, on this image: the labels found first are kept
abbrev pub with_head : Labelled → ℕ → Head1 → Labelled
with_head files image head =
    let first = first_in files.heads head in
    record {
      notes = with_note files.notes first image head;
      heads = with_first files.heads image head first;
      forms = files.forms;
      reading = Some (file_key head.set_id head.sequence);
      fit = files.fit;
    }

-- after a header label, if one was found
abbrev pub with_met : Labelled → ℕ → Option Head1 → Labelled
with_met files image None = files
with_met files image (Some head) = with_head files image head

-- the file of a section has one without a second label, if this is so
abbrev pub absent_if : SectionKey → Bool → Option FormNote
absent_if key is = if is then Some (Absent (file_key key.set_id key.file)) else None

-- the character at position 39 of a second label, or a space if the label is too short
abbrev pub blocking_in : List ℕ → ℕ
blocking_in label = unwrap_or (slice_get label 38) 32

-- a second header label of this kind, if it could be read as one, with the character at its
-- position 39; or a further header label in its place, if it is one
abbrev pub form_by : SectionKey → Option Kind → Result Head2 LabelFault → ℕ → Bool
    → Option FormNote
form_by key (Some Hdr2) (Ok form) blocking is = Some (Stated key form blocking)
form_by key _ _ blocking is = absent_if key is

-- a block of this kind behind a trailer label
abbrev pub trailer_by : Option Kind → Option FormNote
trailer_by (Some Eof2) = Some (Trailer Found)
trailer_by (Some Eov2) = Some (Trailer Found)
trailer_by _ = None

-- What an item says about second labels: it is the second header label of a section, and supported;
-- or a section has none, since a tape mark or a further header label is in its place; or it is an
-- EOF2 or EOV2 behind a trailer label, or an unreadable item there, which may be one, or the tape
-- mark there, before which no item was unreadable.
abbrev pub form_in : Phase → TapeItem → Option FormNote
form_in (Second met) mark = Some (Absent (file_key met.key.set_id met.key.file))
form_in (Second met) (block b) =
    form_by met.key (kind_at b) (wide_head2_at b) (blocking_in b) (is_further_header b)
form_in (Trailers volume) (block b) = trailer_by (kind_at b)
form_in (Trailers volume) bad = Some (Trailer Doubted)
form_in (Trailers volume) mark = Some (Trailer Closed)
form_in _ _ = None

-- Two second labels of one section say different things: the copies do not come from one recording.
abbrev pub is_other_form : Head2 → Head2 → Bool
is_other_form a b = not (letter a.format == letter b.format)
    || (not (a.block_len == b.block_len)
    || (not (a.rec_len == b.rec_len) || not (a.offset == b.offset)))

-- this image and the one with the first second label of the section, if the labels differ
abbrev pub form_conflict : Option FirstForm → ℕ → Head2 → Option (ℕ × ℕ)
form_conflict None image form = None
form_conflict (Some first) image form =
    if is_other_form first.form form then Some (first.image, image) else None

-- the record of a file after one more second label, on this image, of a section whose first second
-- label is given: the label of the file that was found first is kept, with the character at its
-- position 39
abbrev pub with_form_of : List Filed → FileKey → Option FileNote → Option FirstForm → ℕ → Head2
    → ℕ → List Filed
with_form_of notes key None first image form blocking = notes
with_form_of notes key (Some note) first image form blocking =
    insert_entry same_file notes key (record note {
      form = option_or note.form (Some form);
      blocking = if is_some note.form then note.blocking else blocking;
      conflict = option_or note.conflict (form_conflict first image form);
    })

-- the second label of a section that was found first
abbrev pub first_form : List Formed → SectionKey → Option FirstForm
first_form forms key = lookup (same_key key) forms

-- the first second label of each section after one more, on this image
abbrev pub with_first_form : List Formed → ℕ → SectionKey → Head2 → Option FirstForm → List Formed
with_first_form forms image key form (Some first) = forms
with_first_form forms image key form None =
    insert_entry same_key forms key (record { image = image; form = form })

-- the record of a file of which a section has no second label
abbrev pub with_absent : List Filed → FileKey → Option FileNote → List Filed
with_absent notes key None = notes
with_absent notes key (Some note) =
    insert_entry same_file notes key (record note { absent = true })

-- The record of a file after such an item behind the trailer label of a section with these blocks.
-- At the mark the form of the section is known if its HDR2 was read, which is recorded, or if it
-- has none.
abbrev pub after_trailing : FileNote → Trailing → Fit → FileNote
after_trailing note Found fit = record note { trailers = true }
after_trailing note Doubted fit = record note { doubted = true }
after_trailing note Closed fit = record note { bare = note.bare || is_some fit.form }

-- the same in the record of all files
abbrev pub with_trailer_of : List Filed → FileKey → Option FileNote → Trailing → Fit → List Filed
with_trailer_of notes key None item fit = notes
with_trailer_of notes key (Some note) item fit =
    insert_entry same_file notes key (after_trailing note item fit)

-- the record of the file that is being read, if any
abbrev pub with_trailer : List Filed → Option FileKey → Trailing → Fit → List Filed
with_trailer notes None item fit = notes
with_trailer notes (Some key) item fit =
    with_trailer_of notes key (lookup (same_file key) notes) item fit

-- the files after one more second label, on this image
abbrev pub with_stated : Labelled → ℕ → SectionKey → Head2 → ℕ → Labelled
with_stated files image key form blocking =
    let first = first_form files.forms key in
    let file = file_key key.set_id key.file in
    record {
      notes = with_form_of files.notes file (note_at files file) first image form blocking;
      heads = files.heads;
      forms = with_first_form files.forms image key form first;
      reading = files.reading;
      fit = files.fit;
    }

-- the files after what an item of this image says about second labels, if it says anything
abbrev pub with_form : Labelled → ℕ → Option FormNote → Labelled
with_form files image None = files
with_form files image (Some (Stated key form blocking)) =
    with_stated files image key form blocking
with_form files image (Some (Absent key)) = record {
  notes = with_absent files.notes key (note_at files key);
  heads = files.heads;
  forms = files.forms;
  reading = files.reading;
  fit = files.fit;
}
with_form files image (Some (Trailer item)) = record {
  notes = with_trailer files.notes files.reading item files.fit;
  heads = files.heads;
  forms = files.forms;
  reading = files.reading;
  fit = files.fit;
}

-- A section of the file has a second trailer label; or an unreadable item may be one, and no
-- section without second labels has its trailer labels and the mark behind them readable.
abbrev pub has_trailers : FileNote → Bool
has_trailers note = note.trailers || (note.doubted && not note.bare)

-- No section of the file lacks a second header label; or no section has one, nor a second trailer
-- label.
abbrev pub reads_wide : FileNote → Bool
reads_wide note = not (note.absent && (is_some note.form || has_trailers note))

-- the record of a file after a section of which a block is not in its format, or which has padding,
-- if it is so; what was found before is kept
abbrev pub with_blocks_of : List Filed → FileKey → Option FileNote → Option Misfit → Option Padding
    → List Filed
with_blocks_of notes key None misfit padding = notes
with_blocks_of notes key (Some note) misfit padding =
    insert_entry same_file notes key (record note {
      misfit = option_or note.misfit misfit;
      padding = option_or note.padding padding;
    })

-- the same for the file of a section
abbrev pub with_blocks_in : List Filed → SectionKey → Option Misfit → Option Padding → List Filed
with_blocks_in notes key misfit padding =
    let file = file_key key.set_id key.file in
    with_blocks_of notes file (lookup (same_file file) notes) misfit padding

-- the records after the section that was completed, if it is good; of one with unreadable blocks
-- only what was left out of the others
abbrev pub with_blocks : List Filed → Option Told → Fit → List Filed
with_blocks notes None fit = notes
with_blocks notes (Some t) fit = by_state t.1.state
  where
    by_state : SectionState → List Filed
    by_state Good =
        with_blocks_in notes t.0 (misfit_in t.0.sect (misfit_of fit t.1)) (padding_in fit t.1)
    by_state Bad = with_blocks_in notes t.0 None (padding_if false fit.padding)
    by_state Count = notes
    by_state Cut = notes

-- the files after an item in this phase, and the section that it completes
abbrev pub with_fit : Labelled → Phase → TapeItem → Option Told → Labelled
with_fit files p x told = let fit = fit_in files.fit p x in record {
  notes = with_blocks files.notes told fit;
  heads = files.heads;
  forms = files.forms;
  reading = files.reading;
  fit = fit;
}

-- after an item of an image in this phase: the label that it is, or the block
abbrev pub with_label : ℕ → Labelled → Phase → TapeItem → Labelled
with_label image files p x = with_fit
    (with_form (with_met files image (label_in p x)) image (form_in p x)) p x (step p x).1

-- after the labels and blocks of sections among these items of an image, in this phase
abbrev pub with_all : ℕ → Labelled → Phase → List TapeItem → Labelled
with_all image files p [] = files
with_all image files p (x ∷ xs) = with_all image (with_label image files p x) (step p x).0 xs

-- after those of an image
abbrev pub filed_in : ℕ → Labelled → List TapeItem → Labelled
filed_in image files items = with_all image files Volume items

-- some section of the file, of which no label was found or this record, has no second header label,
-- no other section has one, and a section has a second trailer label: the header label is lost
abbrev pub is_unclear : Option FileNote → Bool
is_unclear None = false
is_unclear (Some note) = note.absent && (not (is_some note.form) && has_trailers note)

-- why a file is not readable although all its sections are good, if there is a reason: its second
-- label is lost, a block is not in the format, or no second label is supported
abbrev pub flaw_of : FileNote → Option Flaw
flaw_of note = if is_unclear (Some note) then Some Lost
    else option_or (option_map (λ misfit. Misfits misfit) note.misfit)
    (if note.absent || is_some note.form then None else Some Unsupported)

-- the section that is not readable
abbrev pub flaw_section : Flaw → ℕ
flaw_section Lost = 1
flaw_section Unsupported = 1
flaw_section (Misfits misfit) = misfit.sect

-- a block of a good section of one of these files is not in its format
abbrev pub any_misfit : List Filed → Bool
any_misfit [] = false
any_misfit (f ∷ fs) = is_some f.1.misfit || any_misfit fs

-- one of these files may not be read in the wider reading
abbrev pub any_lost : List Filed → Bool
any_lost [] = false
any_lost (f ∷ fs) = not (reads_wide f.1) || any_lost fs

-- different files were found under the number of one of these files
abbrev pub any_differs : List Filed → Bool
any_differs [] = false
any_differs (f ∷ fs) = is_some f.1.conflict || any_differs fs
