-- Labels of sections that are not of one file, or not of one recording.
use Rattle.std.specs.Prelude.{◌≡◌, ℕ, zero, suc, ◌+◌, ◌==◌, ◌&&◌, ◌||◌, not, Bool, true, false}
use Rattle.std.specs.Prelude.{if◌then◌else◌, List, [], Option, Some, None}
use Rattle.std.specs.{Str.bytes_eq, Option.option_or}
use Rattle.tape_label.specs.Formats.{letter}
use Rattle.tape_set.specs.Lawful.{FileForm}
use Rattle.tape_run.specs.declared.salvage.copies.SectionCopy.{SectionCopy}
use Rattle.tape_run.specs.declared.salvage.walk.Closing.{Closing}
use Rattle.tape_run.specs.{SalvageWalk.form_or, SalvageChoice.firsts, SalvageChoice.IsBest}
use Rattle.tape_run.specs.{SalvageLine.labels_line, SalvageTaking.image_number}

-- The HDR1 of two copies of one section say different things: the file identifiers, creation dates
-- or generations differ.
abbrev pub are_other_labels : SectionCopy → SectionCopy → Bool
are_other_labels best c = not (bytes_eq best.section.file_id c.section.file_id)
    || (not (bytes_eq best.section.created c.section.created)
    || not (bytes_eq best.section.generation c.section.generation))

-- the form in which a copy is read: its own, otherwise that of the file
abbrev pub form_read : Option FileForm → SectionCopy → Option FileForm
form_read known c = form_or c.section.form known

-- blocks of both forms contain records in the same way
abbrev pub are_same_forms : FileForm → FileForm → Bool
are_same_forms f g = (letter f.format == letter g.format)
    && ((f.rec_len == g.rec_len) && (f.offset == g.offset))

-- both are recorded, but blocks of the one contain records in another way than blocks of the other
abbrev pub are_other_forms : Option FileForm → Option FileForm → Bool
are_other_forms None other = false
are_other_forms (Some f) None = false
are_other_forms (Some f) (Some g) = not (are_same_forms f g)

abbrev pub have_same_form : Option FileForm → Option FileForm → Bool
have_same_form None None = true
have_same_form None (Some g) = false
have_same_form (Some f) None = false
have_same_form (Some f) (Some g) = are_same_forms f g

-- the form is recorded in labels with this file identifier
abbrev pub is_form_of : List ℕ → Option FileForm → Bool
is_form_of file_id None = true
is_form_of file_id (Some f) = bytes_eq f.file_id file_id

-- its trailer label, if it has one, names the file of its HDR1
abbrev pub is_named_copy : SectionCopy → Bool
is_named_copy c = is_named_by c.closed
  where
    is_named_by : Option Closing → Bool
    is_named_by None = true
    is_named_by (Some k) = k.named

-- Copies of two sections have the labels of one file: one file identifier, and one form; and the
-- trailer label of the second copy names the file of its HDR1.
abbrev pub are_of_one_file : Option FileForm → SectionCopy → SectionCopy → Bool
are_of_one_file known first c = is_named_copy c
    && (bytes_eq c.section.file_id first.section.file_id
    && (is_form_of c.section.file_id (form_read known c)
    && have_same_form (form_read known first) (form_read known c)))

-- the best copy of a section has other labels than the first section that was found
abbrev pub has_other : Option FileForm → Option SectionCopy → Option SectionCopy → Bool
has_other known None best = false
has_other known (Some first) None = false
has_other known (Some first) (Some best) = not (are_of_one_file known first best)

-- the line about that
abbrev pub labels_text : Option FileForm → Option SectionCopy → Option SectionCopy → List ℕ
labels_text known None best = []
labels_text known (Some first) None = []
labels_text known (Some first) (Some best) = if are_of_one_file known first best then []
    else labels_line best.section.key.sect (image_number best.image) (image_number first.image)

-- The best copy of the first of the sections 1 to n that has a copy.
abbrev pub IsFirst : List SectionCopy → ℕ → Option SectionCopy → Type 0
IsFirst copies zero first = first ≡ None
IsFirst copies (suc n) first = (earlier best : Option SectionCopy) × IsFirst copies n earlier
    × IsBest (firsts (n + 1) None copies) best × (first ≡ option_or earlier best)
