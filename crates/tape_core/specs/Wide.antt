-- The reader's answer to each item in the wider reading. It is that of the table, except for second
-- labels; and padding of NULs or spaces is left out.
use Rattle.std.specs.Prelude.{◌≤◌, ℕ, Bool, true, false, List, Option, Some, None, Ok}
use Rattle.std.specs.Prelude.{if◌then◌else◌}
use Rattle.tape_image.specs.Tape.{TapeItem, block, mark}
use Rattle.tape_label.specs.declared.values.{Kind.Kind, Head2.Head2}
use Rattle.tape_label.specs.declared.values.Kind.TheVariants as kinds
use Rattle.tape_label.specs.{Kinds.kind_at, Labels.no_kind}
use Rattle.tape_label.specs.{Reading.wide_head2_at, WideHead2.absent_head2}
use Rattle.tape_label.specs.WideHead2.{is_further_header}
use Rattle.tape_blocks.specs.Content.{content_in}
use Rattle.tape_set.specs.declared.position.Position.{Position}
use Rattle.tape_set.specs.declared.position.Position.TheVariants.{Awaits}
use Rattle.tape_core.specs.declared.event.{Heading.Heading, Phase.Phase}
use Rattle.tape_core.specs.declared.event.Answer.TheVariants.{Passed}
use Rattle.tape_core.specs.declared.event.Reason.TheVariants.{BadLabel}
use Rattle.tape_core.specs.declared.event.Phase.TheVariants.{Header2, Headers, DataWanted}
use Rattle.tape_core.specs.{State.State, Table.Outcome, Table.passed, Table.useless}
use Rattle.tape_label.specs.Formats.{least_record}
use Rattle.tape_blocks.specs.Packing.{longest_block}
use Rattle.tape_core.specs.Table.{at_head2}
use Rattle.tape_core.specs.Table as Table

-- The numbers of a second label are in range.
abbrev pub IsInRange : Head2 → Type 0
IsInRange h =
    (least_record h.format ≤ h.rec_len) × (h.rec_len ≤ longest_block) × (h.offset ≤ 99)

-- HDR2 is absent: in the section needed each block is one record
abbrev pub without_second : State → Heading → Bool → Outcome
without_second core heading true = at_head2 core heading (Ok absent_head2)
without_second core heading false = passed core (Headers heading None)

-- a block other than HDR2: if it is a further header label, HDR2 is absent
abbrev pub other_label : State → Heading → Bool → List ℕ → Outcome
other_label core heading wanted bytes =
    if is_further_header bytes then without_second core heading wanted
    else useless core (BadLabel (no_kind bytes))

-- a block when HDR2 is expected; in a skipped section only its kind is checked
abbrev pub second_label : State → Heading → Bool → List ℕ → Option Kind → Outcome
second_label core heading false bytes (Some kinds.Hdr2) = passed core (Headers heading None)
second_label core heading true bytes (Some kinds.Hdr2) =
    at_head2 core heading (wide_head2_at bytes)
second_label core heading wanted bytes _ = other_label core heading wanted bytes

-- the outcome of a further item, if the reading continues
abbrev pub and_then : Outcome → Option TapeItem → Outcome
and_then (Passed, core) arrived = Table.step_of core arrived
and_then outcome arrived = outcome

-- any item when HDR2 is expected: a tape mark ends the headers
abbrev pub at_second : State → Heading → Bool → Option TapeItem → Outcome
at_second core heading wanted (Some (block bytes)) =
    second_label core heading wanted bytes (kind_at bytes)
at_second core heading wanted (Some mark) =
    and_then (without_second core heading wanted) (Some mark)
at_second core heading wanted arrived = Table.step_of core arrived

-- one item, by the phase: as the table says, unless HDR2 is expected
abbrev pub by_phase : State → Phase → Position → Option TapeItem → Outcome
by_phase core (Header2 heading wanted) (Awaits sect b part) arrived =
    at_second core heading wanted arrived
by_phase core phase p arrived = Table.step_of core arrived

-- the answer to an item or the reel's end, and the state after it
abbrev pub step_of : State → Option TapeItem → Outcome
step_of core arrived = by_phase core core.phase core.position arrived

-- the content of a block: data of the section needed without padding of NULs or spaces
abbrev pub content_by : Phase → List ℕ → List ℕ
content_by (DataWanted heading form seen) bytes =
    content_in form.format form.rec_len form.offset bytes
content_by phase bytes = bytes

-- the same by the state
abbrev pub content_of : State → List ℕ → List ℕ
content_of core bytes = content_by core.phase bytes

-- the item with its content, by the phase
abbrev pub item_by : Phase → TapeItem → TapeItem
item_by phase (block bytes) = block (content_by phase bytes)
item_by phase item = item

-- the same by the state
abbrev pub content_item : State → TapeItem → TapeItem
content_item core item = item_by core.phase item

-- an item, or the reel's end, with its content
abbrev pub content_step : State → Option TapeItem → Outcome
content_step core None = step_of core None
content_step core (Some item) = step_of core (Some (content_item core item))

-- an item, or the reel's end, in the wider reading (`true`) or in that of the table
abbrev pub step_by : Bool → State → Option TapeItem → Outcome
step_by false core arrived = Table.step_of core arrived
step_by true core arrived = content_step core arrived

-- the item as that reading takes it
abbrev pub read_as : Bool → State → TapeItem → TapeItem
read_as false core item = item
read_as true core item = content_item core item

-- the bytes of a block as that reading takes them
abbrev pub bytes_as : Bool → State → List ℕ → List ℕ
bytes_as false core bytes = bytes
bytes_as true core bytes = content_of core bytes
