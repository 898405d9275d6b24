-- A summary of an image, from its items.
use Rattle.std.specs.Prelude.{ℕ, ◌+◌, ◌==◌, ◌&&◌, not, Bool, true, false, if◌then◌else◌, List, []}
use Rattle.std.specs.Prelude.{◌∷◌, length, Option, Some, None, is_some, Result, Ok, Err}
use Rattle.std.specs.{List.flat_map, Option.option_or, Str.bytes_eq}
use Rattle.tape_image.specs.Tape.{TapeItem, block, bad, mark}
use Rattle.tape_label.specs.declared.values.{Kind.Kind, Vol1.Vol1, Head1.Head1, Head2.Head2}
use Rattle.tape_label.specs.declared.label.LabelFault.{LabelFault}
use Rattle.tape_label.specs.declared.values.Kind.TheVariants as kinds
use Rattle.tape_label.specs.{Kinds.kind_at, Positions.positions}
use Rattle.tape_label.specs.Reading.{vol1_at, head1_at, trail1_at, wide_head2_at}
use Rattle.tape_label.specs.declared.values.Trail1.{Trail1}
use Rattle.tape_run.specs.declared.met.Met.{Met}
use Rattle.tape_run.specs.Passing.{closes}
use Rattle.tape_run.specs.declared.survey.glance.{First.First, ImageSummary.ImageSummary}
use Rattle.tape_run.specs.declared.survey.course.{ExpectedItem.ExpectedItem, LabelOrder.LabelOrder}
use Rattle.tape_run.specs.declared.{passing.Phase.Phase, section.SectionLine.SectionLine}
use Rattle.tape_run.specs.declared.passing.Phase.TheVariants as phases
use Rattle.tape_run.specs.declared.survey.glance.First.TheVariants as firsts
use Rattle.tape_run.specs.declared.survey.course.ExpectedItem.TheVariants as wanted
use Rattle.tape_run.specs.declared.survey.course.LabelOrder.TheVariants.{Follows, Blank, Ended}
use Rattle.tape_run.specs.declared.survey.course.LabelOrder.TheVariants.{Leaves}
use Rattle.tape_run.specs.{Lacks.line_of, Noted.is_good, Passing.Told, Onward.step}
use Rattle.tape_run.specs.{Onward.stray_by}
use Rattle.tape_run.specs.WidePassing as Wide

-- 80 bytes that begin VOL1 in EBCDIC
unfoldable pub is_ebcdic : List ℕ → Bool
is_ebcdic b = (length b == 80) && bytes_eq (positions b 1 4) (229 ∷ 214 ∷ 211 ∷ 241 ∷ [])

-- a first block that was read as a volume label, or could not be
abbrev pub first_by : List ℕ → Result Vol1 LabelFault → First
first_by b (Ok label) = firsts.Volume label
first_by b (Err _) = if is_ebcdic b then firsts.Ebcdic else firsts.Block (length b)

-- the class of an image with this first item
abbrev pub first_of : TapeItem → First
first_of (block b) = first_by b (vol1_at b)
first_of bad = firsts.Bad
first_of mark = firsts.Mark

-- a block of this kind is a volume label
abbrev pub is_kind_vol1 : Option Kind → Bool
is_kind_vol1 (Some kinds.Vol1) = true
is_kind_vol1 _ = false

-- an item is a volume label
abbrev pub is_vol1 : TapeItem → Bool
is_vol1 (block b) = is_kind_vol1 (kind_at b)
is_vol1 _ = false

-- the label that was read, if the block could be read as one
abbrev pub head_by : Result Head1 LabelFault → Option Head1
head_by (Ok head) = Some head
head_by (Err _) = None

-- the item as a header label, if it is one and a section begins there, also if it breaks the order
-- of the volume
abbrev pub head_in : Phase → TapeItem → Option Head1
head_in phases.Volume (block b) = head_by (head1_at b)
head_in (phases.Labels v) (block b) = head_by (head1_at b)
head_in (phases.Second met) (block b) = head_by (head1_at b)
head_in (phases.Trailer met) (block b) = head_by (head1_at b)
head_in (phases.Next v) (block b) = head_by (head1_at b)
head_in _ _ = None

-- the fields of a section's trailer label, with the set of its header, if the numbers are the
-- section's
abbrev pub trailer_head : Met → Result Trail1 LabelFault → Option Head1
trailer_head met (Ok trail) =
    if closes met trail then Some (record trail.head { set_id = met.key.set_id }) else None
trailer_head met (Err fault) = None

-- the trailer label of the section that is being read, or of one whose header label was not read
abbrev pub trailer_in : Phase → Result Trail1 LabelFault → Option Head1
trailer_in (phases.Trailer met) read = trailer_head met read
trailer_in (phases.Labels v) read = stray_by read
trailer_in (phases.Next v) read = stray_by read
trailer_in _ read = None

-- the label of a section: its HDR1, or its trailer label
abbrev pub label_in : Phase → TapeItem → Option Head1
label_in p (block b) = option_or (head_in p (block b)) (trailer_in p (trail1_at b))
label_in p _ = None

-- the file, if its block in place of a second label is an HDR2 that cannot be read as one
abbrev pub unread_by : ℕ → Option Kind → Result Head2 LabelFault → Option ℕ
unread_by file (Some kinds.Hdr2) (Err _) = Some file
unread_by file _ _ = None

-- the same for an item
abbrev pub unread_in : Phase → TapeItem → Option ℕ
unread_in (phases.Second met) (block b) = unread_by met.key.file (kind_at b) (wide_head2_at b)
unread_in _ _ = None

-- the item expected in each phase
abbrev pub wanted_in : Phase → ExpectedItem
wanted_in phases.Volume = wanted.Volume
wanted_in (phases.Labels v) = wanted.Section
wanted_in (phases.Second met) = wanted.Second
wanted_in (phases.Trailer met) = wanted.Trailer
wanted_in (phases.Next v) = wanted.Next
wanted_in phases.Over = wanted.End
wanted_in _ = wanted.Mark

-- an item left the order if nothing is expected after it
abbrev pub left_by : ℕ → Phase → Phase → LabelOrder
left_by number p phases.Over = Leaves number (wanted_in p)
left_by number p _ = Follows

-- The label order after a tape mark, if all items before it are in order and the volume continues:
-- after the volume labels the volume may be blank, and a second mark after a section ends it.
abbrev pub behind_mark : ℕ → Phase → Phase → LabelOrder
behind_mark number (phases.Labels v) next = Blank
behind_mark number (phases.Next v) next = Ended
behind_mark number p next = left_by number p next

-- the same for an item
abbrev pub behind : ℕ → Phase → TapeItem → Phase → LabelOrder
behind number p mark next = behind_mark number p next
behind number p bad next = left_by number p next
behind number p (block b) next = left_by number p next

-- the label order after an item in place of the second tape mark
abbrev pub behind_blank : ℕ → TapeItem → LabelOrder
behind_blank number mark = Ended
behind_blank number bad = Leaves number wanted.SecondMark
behind_blank number (block b) = Leaves number wanted.SecondMark

-- the label order after an item
abbrev pub course_with : LabelOrder → ℕ → Phase → TapeItem → Phase → LabelOrder
course_with Follows number p x next = behind number p x next
course_with Blank number p x next = behind_blank number x
course_with Ended number p x next = Leaves number wanted.End
course_with (Leaves n w) number p x next = Leaves n w

-- an item is an unreadable block
abbrev pub is_bad : TapeItem → Bool
is_bad bad = true
is_bad _ = false

-- 1 if this is true, otherwise 0
abbrev pub one_if : Bool → ℕ
one_if b = if b then 1 else 0

-- the entry of a section, if the section is damaged
abbrev pub damage_in : Told → List SectionLine
damage_in t = if is_good t.1.state then [] else line_of t ∷ []

-- the damaged ones of these sections
abbrev pub damages_in : List Told → List SectionLine
damages_in sections = flat_map damage_in sections

-- the summary before any item was read
abbrev pub blank_glance : ImageSummary
blank_glance = record {
  items = 0;
  first = firsts.Nothing;
  late = None;
  head = None;
  files = 0;
  bad = 0;
  unread = None;
  course = Follows;
}

-- The summary after one more item, with the phase before it, and the phase after it in the order of
-- a volume.
abbrev pub look_to : ImageSummary → Phase → TapeItem → Phase → ImageSummary
look_to g p x next = record {
  items = g.items + 1;
  first = if g.items + 1 == 1 then first_of x else g.first;
  late =
      if not (g.items + 1 == 1) && is_vol1 x then option_or g.late (Some (g.items + 1)) else g.late;
  head = option_or g.head (head_in p x);
  files = g.files + one_if (is_some (head_in p x));
  bad = g.bad + one_if (is_bad x);
  unread = option_or g.unread (unread_in p x);
  course = course_with g.course (g.items + 1) p x next;
}

-- the summary after these items, in this phase
abbrev pub look_all : ImageSummary → Phase → List TapeItem → ImageSummary
look_all g p [] = g
look_all g p (x ∷ xs) = look_all (look_to g p x (Wide.step p x).0) (step p x).0 xs

-- the summary of an image
abbrev pub glance_of : List TapeItem → ImageSummary
glance_of items = look_all blank_glance phases.Volume items
