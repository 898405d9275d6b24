-- Reading the items of an image to find its sections, past unreadable ones.
--
-- A section extends from its first label to its trailer label. When no section is open, a block
-- that reads as HDR1 begins one. It closes if its data and a tape mark are followed by a trailer
-- label with its numbers; then the marks before and after its data were read, and all items between
-- them are its data. If HDR1 was not read, the items between two tape marks are the data of the
-- section whose trailer label follows, provided that it counts as many blocks.
use Rattle.std.specs.Prelude.{ℕ, ◌+◌, ◌-◌, min, ◌==◌, ◌&&◌, nat_lt, Bool, true, false, List, []}
use Rattle.std.specs.{Prelude.if◌then◌else◌, Str.bytes_eq}
use Rattle.std.specs.Prelude.{◌∷◌, ◌++◌, Option, Some, None, option_map, Result, Ok, Err}
use Rattle.tape_image.specs.Tape.{TapeItem, block, bad, mark}
use Rattle.tape_label.specs.declared.values.{Kind.Kind, Head1.Head1, Head2.Head2, Trail1.Trail1}
use Rattle.tape_label.specs.declared.label.LabelFault.{LabelFault}
use Rattle.tape_label.specs.declared.values.Kind.TheVariants as kinds
use Rattle.tape_label.specs.{Kinds.kind_at, Reading.head1_at, Reading.trail1_at}
use Rattle.tape_label.specs.{Reading.wide_head2_at, WideHead2.absent_head2}
use Rattle.tape_label.specs.WideHead2.{is_further_header}
use Rattle.tape_set.specs.Lawful.{FileForm, binding_len, label_count}
use Rattle.tape_core.specs.{Known.known_of, Range.form_in_range}
use Rattle.tape_run.specs.{SurveyDigest.digest_with, SalvageTrailers.is_own_trailer}
use Rattle.tape_run.specs.SalvageTrailers.{is_other_trailer, count_in}
use Rattle.tape_run.specs.declared.salvage.walk.{OpenSection.OpenSection, Closing.Closing}
use Rattle.tape_run.specs.declared.salvage.walk.{UnnamedItems.UnnamedItems, Expected.Expected}
use Rattle.tape_run.specs.declared.salvage.walk.Expected.TheVariants.{Outside, Second, Headers}
use Rattle.tape_run.specs.declared.salvage.walk.Expected.TheVariants.{Data, Trailer, Trailers, Next}
use Rattle.tape_run.specs.declared.salvage.walk.Expected.TheVariants.{Over, Unnamed, UnnamedTrailer}
use Rattle.tape_run.specs.declared.salvage.walk.Expected.TheVariants.{Skipping}

-- a section that ended, and how, if a trailer label with its numbers was read
abbrev pub FoundSection : Type 0
FoundSection = OpenSection × Option Closing

-- one more data item; the count cannot overflow, since an image has fewer items
abbrev pub with_item : OpenSection → OpenSection
with_item u = record u { blocks = min (u.blocks + 1) 4294967295 }

-- the first of these
abbrev pub first_of : Option ℕ → ℕ → Option ℕ
first_of None n = Some n
first_of (Some m) n = Some m

-- it is the trailer label of this section
abbrev pub closes : OpenSection → Trail1 → Bool
closes u t = (t.head.sect == u.key.sect) && (t.head.sequence == u.key.file)

-- the trailer label names the file of its HDR1, as the standard requires
abbrev pub is_named : OpenSection → Trail1 → Bool
is_named u t = bytes_eq t.head.file_id u.file_id
    && (bytes_eq t.head.created u.created && bytes_eq t.head.generation u.generation)

-- the end that its trailer label records
abbrev pub closing_of : OpenSection → Trail1 → Closing
closing_of u t = record { eof = t.eof; count = t.blocks; named = is_named u t }

-- the number of data items before the first that may be the section's own trailer label, if the
-- next one may be it or not
abbrev pub trailer_by : OpenSection → Bool → Option ℕ
trailer_by u may_end = if may_end then first_of u.trailer u.blocks else u.trailer

-- one more data block that was read
abbrev pub with_data : List ℕ → OpenSection → OpenSection
with_data b u = record (with_item u) {
  trailer = trailer_by u (is_own_trailer u.key b);
  digest = digest_with u.digest b;
}

-- an unreadable item
abbrev pub doubted : OpenSection → OpenSection
doubted u = record u { certain = first_of u.certain u.blocks }

-- an unreadable data item
abbrev pub with_unreadable : OpenSection → OpenSection
with_unreadable u = record (doubted u) { unreadable = min (u.unreadable + 1) 4294967295 }

-- the section whose first label this is
abbrev pub section_by : Head1 → OpenSection
section_by h = record {
  key = record { set_id = h.set_id; file = h.sequence; sect = h.sect };
  file_id = h.file_id;
  created = h.created;
  generation = h.generation;
  form = None;
  has_no_second = false;
  blocks = 0;
  certain = None;
  trailer = None;
  unreadable = 0;
  after = None;
  digest = 0;
}

-- after a block at which a section may begin
abbrev pub begun_by : Result Head1 LabelFault → Expected → Expected
begun_by (Ok h) other = Second (section_by h)
begun_by (Err _) other = other

-- the form that a second label records, if its numbers are in range
abbrev pub form_of : List ℕ → Head2 → FileForm
form_of file_id g = known_of g.format (binding_len g.format g.rec_len) g.offset file_id

-- the form of a section without HDR2: each block is one record
abbrev pub absent_form : List ℕ → FileForm
absent_form file_id = form_of file_id absent_head2

abbrev pub form_by : List ℕ → Result Head2 LabelFault → Option FileForm
form_by file_id (Ok g) =
    if form_in_range (form_of file_id g) then Some (form_of file_id g) else None
form_by file_id (Err _) = None

-- the section after what is in place of its second label, which shows that it has none or does not;
-- an unreadable item after its trailer label may be its second label too, so it shows nothing
abbrev pub with_second : Bool → OpenSection → OpenSection
with_second is_absent u = record u { has_no_second = is_absent }

-- after a block at which a second label is expected
abbrev pub second_by : OpenSection → Option Kind → Result Head2 LabelFault → Expected
second_by u (Some kinds.Hdr2) g = Headers (record u { form = form_by u.file_id g })
second_by u _ g = Headers u

-- the section did not close, and another may begin here
abbrev pub unclosed_by : OpenSection → Result Head1 LabelFault → Expected × Option FoundSection
unclosed_by u h = (begun_by h (Outside 0), Some (u, None))

-- the form that was recorded first
abbrev pub form_or : Option FileForm → Option FileForm → Option FileForm
form_or None other = other
form_or (Some form) other = Some form

-- the form that a label of this kind after the trailer label records, if it is EOF2 or EOV2; an
-- HDR2 there belongs to another file, since the tape mark between them is lost
abbrev pub trailer_form : List ℕ → Option Kind → Result Head2 LabelFault → Option FileForm
trailer_form file_id (Some kinds.Eof2) g = form_by file_id g
trailer_form file_id (Some kinds.Eov2) g = form_by file_id g
trailer_form file_id _ g = None

-- a label of this kind after the trailer label
abbrev pub with_trailer : OpenSection → Option Kind → Result Head2 LabelFault → OpenSection
with_trailer u kind g = record u {
  form = form_or u.form (trailer_form u.file_id kind g);
  after = option_map (λ n. min (n + 1) 4294967295) u.after;
}

-- the data items that are not the last of another section, which has so many blocks; 0: not known
abbrev pub items_before : ℕ → ℕ → ℕ
items_before n blocks = if n == 0 then 0 else blocks - n

abbrev pub least_of : Option ℕ → ℕ → ℕ
least_of None n = n
least_of (Some m) n = min m n

-- The section if this block follows its data and does not close it. If that is the trailer label of
-- another section, the last data items may be blocks of that section: as many as the label counts.
abbrev pub followed_by : List ℕ → OpenSection → OpenSection
followed_by b u =
    if is_other_trailer u.key b
    then record u { certain = Some (least_of u.certain (items_before (count_in b) u.blocks)) }
    else u

-- after a block at which a trailer label is expected; v is the section if this is none
abbrev pub closed_by : OpenSection → OpenSection → Result Trail1 LabelFault
    → Result Head1 LabelFault → Expected × Option FoundSection
closed_by u v (Ok t) h =
    if closes u t
    then (Trailers u (closing_of u t), None)
    else unclosed_by v h
closed_by u v (Err _) h = unclosed_by v h

-- ---- outside of sections

-- one item, which could be read or not
abbrev pub one_read : UnnamedItems
one_read = record { items = 1; unreadable = 0 }

abbrev pub one_unreadable : UnnamedItems
one_unreadable = record { items = 1; unreadable = 1 }

-- one more item
abbrev pub and_read : UnnamedItems → UnnamedItems
and_read r = record r { items = min (r.items + 1) 4294967295 }

abbrev pub and_unreadable : UnnamedItems → UnnamedItems
and_unreadable r = record {
  items = min (r.items + 1) 4294967295;
  unreadable = min (r.unreadable + 1) 4294967295;
}

-- the section with this trailer label and these data; the label is followed by a tape mark
abbrev pub named_by : UnnamedItems → Trail1 → OpenSection
named_by r t = record (section_by t.head) {
  blocks = r.items;
  certain = Some 0;
  unreadable = r.unreadable;
  after = Some 2;
}

-- after a block in place of the trailer label of these items; the label counts the items
abbrev pub unnamed_by : UnnamedItems → Result Trail1 LabelFault → Result Head1 LabelFault → Expected
unnamed_by r (Ok t) h =
    if t.blocks == label_count r.items
    then Trailers (named_by r t) (closing_of (named_by r t) t)
    else begun_by h (Unnamed one_read)
unnamed_by r (Err _) h = begun_by h (Unnamed one_read)

-- after one item outside of sections that begins no section; only the tape mark before it may be
-- the one before a section's data
abbrev pub unnamed_after : ℕ → UnnamedItems → Expected
unnamed_after marks r = if marks == 1 then Unnamed r else Outside 0

-- after two tape marks: a trailer label shows that the volume did not end there
abbrev pub goes_on_by : Option Kind → Expected
goes_on_by (Some kinds.Eof1) = Outside 0
goes_on_by (Some kinds.Eov1) = Outside 0
goes_on_by (Some kinds.Eof2) = Outside 0
goes_on_by (Some kinds.Eov2) = Outside 0
goes_on_by _ = Over

-- after a block outside of sections
abbrev pub outside_by : ℕ → Option Kind → Result Head1 LabelFault → Expected
outside_by marks k h =
    if nat_lt marks 2 then begun_by h (unnamed_after marks one_read) else goes_on_by k

-- after one more tape mark outside of sections
abbrev pub outside_mark : ℕ → Expected
outside_mark marks = if marks == 0 then Outside 1 else (if marks == 1 then Outside 2 else Over)

-- after an unreadable item outside of sections
abbrev pub outside_bad : ℕ → Expected
outside_bad marks = if nat_lt marks 2 then unnamed_after marks one_unreadable else Outside marks

-- the data of a section, after one item less
abbrev pub skipping : ℕ → OpenSection → Expected
skipping n u = if n == 0 then Data u else Skipping n u

-- the phase expected after an item, and the section that ended there, if any
abbrev pub step : Expected → TapeItem → Expected × Option FoundSection
step (Outside n) (block b) = (outside_by n (kind_at b) (head1_at b), None)
step (Outside n) bad = (outside_bad n, None)
step (Outside n) mark = (outside_mark n, None)
step (Second u) (block b) =
    (second_by (with_second (is_further_header b) u) (kind_at b) (wide_head2_at b), None)
step (Second u) bad = (Headers (doubted u), None)
step (Second u) mark = (Data (with_second true u), None)
step (Headers u) (block b) = (Headers u, None)
step (Headers u) bad = (Headers (doubted u), None)
step (Headers u) mark = (Data u, None)
step (Data u) (block b) = (Data (with_data b u), None)
step (Data u) bad = (Data (with_item (with_unreadable u)), None)
step (Data u) mark = (Trailer u, None)
step (Trailer u) (block b) = closed_by u (followed_by b u) (trail1_at b) (head1_at b)
step (Trailer u) bad = (Outside 0, Some (u, None))
step (Trailer u) mark = (Outside 1, Some (u, None))
step (Trailers u k) (block b) =
    (Trailers (with_trailer u (kind_at b) (wide_head2_at b)) k, None)
step (Trailers u k) bad = (Outside 0, Some (with_second false u, Some k))
step (Trailers u k) mark = (Next, Some (u, Some k))
step Next (block b) = (begun_by (head1_at b) (Outside 0), None)
step Next bad = (Outside 0, None)
step Next mark = (Over, None)
step Over _ = (Over, None)
step (Unnamed r) (block b) = (begun_by (head1_at b) (Unnamed (and_read r)), None)
step (Unnamed r) bad = (Unnamed (and_unreadable r), None)
step (Unnamed r) mark = (UnnamedTrailer r, None)
step (UnnamedTrailer r) (block b) = (unnamed_by r (trail1_at b) (head1_at b), None)
step (UnnamedTrailer r) bad = (Unnamed one_unreadable, None)
step (UnnamedTrailer r) mark = (Outside 2, None)
step (Skipping n u) _ = (skipping (n - 1) u, None)

-- the current section, if the items end here
abbrev pub open_section : Expected → Option FoundSection
open_section (Headers u) = Some (u, None)
open_section (Data u) = Some (u, None)
open_section (Trailer u) = Some (u, None)
open_section (Trailers u k) = Some (u, Some k)
open_section _ = None

-- the phase expected after these items
abbrev pub expected_after : Expected → List TapeItem → Expected
expected_after s [] = s
expected_after s (x ∷ xs) = expected_after (step s x).0 xs

-- A section that ended, and the number of items of the image that were read before the one that
-- ended it.
abbrev pub FoundAt : Type 0
FoundAt = ℕ × FoundSection

-- one more item was read; the count never exceeds the greatest number of 64 bits
abbrev pub one_further : ℕ → ℕ
one_further n = min (n + 1) 18446744073709551615

-- n items after these
abbrev pub read_after : ℕ → List TapeItem → ℕ
read_after n [] = n
read_after n (x ∷ xs) = read_after (one_further n) xs

-- a section that ended, as a list
abbrev pub in_list : ℕ → Option FoundSection → List FoundAt
in_list n None = []
in_list n (Some t) = (n, t) ∷ []

-- the sections that end in these items, in order; `read` items were read before
abbrev pub found_from : Expected → ℕ → List TapeItem → List FoundAt
found_from s n [] = []
found_from s n (x ∷ xs) = in_list n (step s x).1 ++ found_from (step s x).0 (one_further n) xs

-- the sections on an image with these items
abbrev pub sections_in : List TapeItem → List FoundAt
sections_in items = found_from (Outside 0) 0 items
    ++ in_list (read_after 0 items) (open_section (expected_after (Outside 0) items))
