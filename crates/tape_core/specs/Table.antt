-- The reader's answer to each item, and the state after it.
use Rattle.std.specs.Prelude.{◌≡◌, ℕ, ◌+◌, ◌==◌, nat_lt, ◌&&◌, not, Bool, true, false}
use Rattle.std.specs.Prelude.{if◌then◌else◌, List, Option, Some, None, Result, Ok, Err}
use Rattle.std.specs.Str.{bytes_eq}
use Rattle.tape_image.specs.Tape.{TapeItem, block, bad, mark}
use Rattle.tape_label.specs.declared.values.{Kind.Kind, Head1.Head1, Head2.Head2, Trail1.Trail1}
use Rattle.tape_label.specs.declared.label.LabelFault.{LabelFault}
use Rattle.tape_label.specs.declared.label.LabelFault.TheVariants as faults
use Rattle.tape_label.specs.declared.values.Kind.TheVariants as kinds
use Rattle.tape_label.specs.{Kinds.kind_at, VolumeLabels.is_volume_label}
use Rattle.tape_label.specs.Labels.{no_kind}
use Rattle.tape_label.specs.Reading.{head1_at, head2_at, trail1_at}
use Rattle.tape_blocks.specs.declared.{check.BlockFault.BlockFault, parts.Shape.Shape}
use Rattle.tape_blocks.specs.Judged.{judged}
use Rattle.tape_set.specs.declared.position.Position.{Position}
use Rattle.tape_set.specs.declared.position.Position.TheVariants.{Awaits, Finished}
use Rattle.tape_set.specs.Position.{start, next_block, next_section, sect_of, block_of, part_of}
use Rattle.tape_set.specs.Lawful.{FileForm, label_count, most_blocks}
use Rattle.tape_core.specs.declared.event.{Answer.Answer, Reason.Reason, Heading.Heading}
use Rattle.tape_core.specs.declared.event.{Phase.Phase, CoreFault.CoreFault}
use Rattle.tape_core.specs.declared.event.CoreFault.TheVariants.{OtherFile}
use Rattle.tape_core.specs.declared.event.Answer.TheVariants.{Passed, Deliver, SectionDone}
use Rattle.tape_core.specs.declared.event.Answer.TheVariants.{Complete, Useless}
use Rattle.tape_core.specs.declared.event.Reason.TheVariants as reasons
use Rattle.tape_core.specs.declared.event.Reason.TheVariants.{NotLabelled, OtherSet, NotOnReel}
use Rattle.tape_core.specs.declared.event.Reason.TheVariants.{LaterSection, EarlierSection, BadItem}
use Rattle.tape_core.specs.declared.event.Reason.TheVariants.{ReelEnded, BadBlock, BlockCount}
use Rattle.tape_core.specs.declared.event.Reason.TheVariants.{SpanLeft, SectionDiffers, BadLabel}
use Rattle.tape_core.specs.declared.event.Phase.TheVariants.{Over, Broken, Volume, VolumeLabels}
use Rattle.tape_core.specs.declared.event.Phase.TheVariants.{Header2, Headers, DataPassed}
use Rattle.tape_core.specs.declared.event.Phase.TheVariants.{DataWanted, TrailerPassed}
use Rattle.tape_core.specs.declared.event.Phase.TheVariants.{TrailerWanted, Trailers, NextFile}
use Rattle.tape_core.specs.Labels.{heading_of, form_at, other_file_id, other_shape}
use Rattle.tape_core.specs.{Parts.begun_before, Parts.other_front, Point.Point, State.State}

-- ---- answers

-- an answer, and the state after it
abbrev pub Outcome : Type 0
Outcome = Answer × State

-- the state with another phase; the position does not change
abbrev pub in_phase : State → Phase → State
in_phase core phase = record core { phase = phase }

-- the item was expected, and the next phase begins
abbrev pub passed : State → Phase → Outcome
passed core phase = (Passed, in_phase core phase)

-- the reading ends, and the position does not change
abbrev pub useless : State → Reason → Outcome
useless core why = (Useless why, in_phase core Over)

-- the reading ends, and no reading begins before a restart
abbrev pub broken : State → Reason → Outcome
broken core why = (Useless why, in_phase core Broken)

-- the state at the given position, with the given state of the record, form and phase
abbrev pub moved_to : State → Position → Bool → FileForm → Phase → State
moved_to core position begun form phase =
    record core { position = position; begun = begun; known = Some form; phase = phase }

-- ---- the rules, in the order in which a volume is laid out

-- VOL1 is expected; a reel that begins with any other block is not a labelled volume
abbrev pub first_label : State → Option Kind → Outcome
first_label core (Some kinds.Vol1) = passed core VolumeLabels
first_label core _ = useless core NotLabelled

-- HDR1: set, file, section and file identifier are compared, in this order; a section of an earlier
-- file is skipped
abbrev pub at_head1 : State → Result Head1 LabelFault → Outcome
at_head1 core (Err fault) = useless core (BadLabel fault)
at_head1 core (Ok h) =
    if not (bytes_eq h.set_id core.set_id) then useless core OtherSet
    else if nat_lt h.sequence core.file then passed core (Header2 (heading_of h) false)
    else if nat_lt core.file h.sequence then useless core NotOnReel
    else if nat_lt h.sect (sect_of core.position) then useless core EarlierSection
    else if nat_lt (sect_of core.position) h.sect then useless core LaterSection
    else if other_file_id core.known h.file_id then useless core SectionDiffers
    else passed core (Header2 (heading_of h) true)

-- HDR1 of the volume's first section is expected
abbrev pub first_labels : State → List ℕ → Option Kind → Outcome
first_labels core bytes (Some kinds.Hdr1) = at_head1 core (head1_at bytes)
first_labels core bytes _ = useless core NotLabelled

-- HDR2 of the section needed: format, record length and offset must be those already known
abbrev pub at_head2 : State → Heading → Result Head2 LabelFault → Outcome
at_head2 core heading (Err fault) = useless core (BadLabel fault)
at_head2 core heading (Ok g) =
    if other_shape core.known (form_at heading g) then useless core SectionDiffers
    else passed core (Headers heading (Some (form_at heading g)))

-- an HDR2 is expected; in a skipped section only its kind is checked
abbrev pub second_label : State → Heading → Bool → List ℕ → Option Kind → Outcome
second_label core heading false bytes (Some kinds.Hdr2) = passed core (Headers heading None)
second_label core heading true bytes (Some kinds.Hdr2) = at_head2 core heading (head2_at bytes)
second_label core heading wanted bytes _ = useless core (BadLabel (no_kind bytes))

-- the phase after the mark that ends the headers: data, of the section needed or of a skipped
-- section
abbrev pub data_phase : Heading → Option FileForm → Phase
data_phase heading None = DataPassed heading
data_phase heading (Some form) = DataWanted heading form 0

-- the expected block is the next block of the file
abbrev pub delivered : State → Heading → FileForm → Bool → Outcome
delivered core heading form end =
    let behind = DataWanted heading form (block_of core.position + 1) in
    (Deliver, moved_to core (next_block core.position) end form behind)

-- the same by the phase; only data of the section needed are expected
abbrev pub moved_on : State → Phase → Bool → State
moved_on core (DataWanted heading form seen) end = (delivered core heading form end).1
moved_on core phase end = core

-- the state after the expected block
abbrev pub after_block : State → Bool → State
after_block core end = moved_on core core.phase end

-- the expected block: the result is whether it leaves a record unfinished, or why it is refused
abbrev pub found_awaited : State → Heading → FileForm → Result Bool Reason → Outcome
found_awaited core heading form (Err why) = useless core why
found_awaited core heading form (Ok end) = delivered core heading form end

-- the expected block, by the result of its check; it must be the block whose first parts were
-- delivered
abbrev pub at_judged : State → Heading → FileForm → List ℕ → Result Bool BlockFault → Outcome
at_judged core heading form bytes (Err fault) = useless core (BadBlock fault)
at_judged core heading form bytes (Ok end) =
    if other_front form (part_of core.position) core.begun bytes then useless core SectionDiffers
    else delivered core heading form end

-- the expected block is checked; after the greatest block number no block is expected
abbrev pub at_awaited : State → Heading → FileForm → List ℕ → Outcome
at_awaited core heading form bytes =
    if not (nat_lt (block_of core.position) most_blocks) then useless core SectionDiffers
    else at_judged core heading form bytes (judged form.format form.rec_len form.offset
    (begun_before form (part_of core.position) core.begun bytes) bytes)

-- a block of the section needed: a block that was delivered already is skipped
abbrev pub at_data : State → Heading → FileForm → ℕ → List ℕ → Outcome
at_data core heading form seen bytes =
    if nat_lt seen (block_of core.position) then passed core (DataWanted heading form (seen + 1))
    else at_awaited core heading form bytes

-- whether the numbers in the trailer differ from those in the header
abbrev pub other_numbers : Heading → Trail1 → Bool
other_numbers heading t =
    not ((t.head.sequence == heading.sequence) && (t.head.sect == heading.sect))

-- the trailer of a skipped section: its numbers must be those of the header
abbrev pub at_passed_trailer : State → Heading → Result Trail1 LabelFault → Outcome
at_passed_trailer core heading (Err fault) = useless core (BadLabel fault)
at_passed_trailer core heading (Ok t) =
    if other_numbers heading t then useless core SectionDiffers
    else passed core Trailers

-- EOF1 ends the file, which must not leave a record unfinished; EOV1 ends the section, if the next
-- section has a valid number
abbrev pub at_end : State → FileForm → Bool → Outcome
at_end core form true =
    if core.begun then useless core SpanLeft
    else (Complete, moved_to core Finished false form Over)
at_end core form false =
    if not (nat_lt (sect_of core.position) 9999) then useless core SectionDiffers
    else (SectionDone, moved_to core (next_section core.position) core.begun form Over)

-- the trailer of the section needed, after all its blocks were seen: first its numbers are checked,
-- then its count
abbrev pub at_wanted_trailer :
    State → Heading → FileForm → Result Trail1 LabelFault → Outcome
at_wanted_trailer core heading form (Err fault) = useless core (BadLabel fault)
at_wanted_trailer core heading form (Ok t) =
    if other_numbers heading t then useless core SectionDiffers
    else if not (t.blocks == label_count (block_of core.position))
    then broken core (BlockCount t.blocks (block_of core.position))
    else at_end core form t.eof

-- ---- the table: the effect of each item, by phase

-- a block
abbrev pub at_block : State → Phase → List ℕ → Outcome
at_block core Over bytes = useless core ReelEnded
at_block core Broken bytes = broken core reasons.Broken
at_block core Volume bytes = first_label core (kind_at bytes)
at_block core VolumeLabels bytes =
    if is_volume_label bytes then passed core VolumeLabels
    else first_labels core bytes (kind_at bytes)
at_block core (Header2 heading wanted) bytes =
    second_label core heading wanted bytes (kind_at bytes)
at_block core (Headers heading wanted) bytes = passed core (Headers heading wanted)
at_block core (DataPassed heading) bytes = passed core (DataPassed heading)
at_block core (DataWanted heading form seen) bytes = at_data core heading form seen bytes
at_block core (TrailerPassed heading) bytes = at_passed_trailer core heading (trail1_at bytes)
at_block core (TrailerWanted heading form) bytes =
    at_wanted_trailer core heading form (trail1_at bytes)
at_block core Trailers bytes = passed core Trailers
at_block core NextFile bytes = at_head1 core (head1_at bytes)

-- a tape mark; the mark after the data must follow all blocks that were delivered already
abbrev pub at_mark : State → Phase → Outcome
at_mark core Over = useless core ReelEnded
at_mark core Broken = broken core reasons.Broken
at_mark core Volume = useless core NotLabelled
at_mark core VolumeLabels = useless core NotLabelled
at_mark core (Header2 heading wanted) = useless core (BadLabel faults.Identifier)
at_mark core (Headers heading wanted) = passed core (data_phase heading wanted)
at_mark core (DataPassed heading) = passed core (TrailerPassed heading)
at_mark core (DataWanted heading form seen) =
    if nat_lt seen (block_of core.position) then useless core SectionDiffers
    else passed core (TrailerWanted heading form)
at_mark core (TrailerPassed heading) = useless core (BadLabel faults.Identifier)
at_mark core (TrailerWanted heading form) = useless core (BadLabel faults.Identifier)
at_mark core Trailers = passed core NextFile
at_mark core NextFile = useless core NotOnReel

-- an unreadable item; it is skipped if it is a block that was delivered already
abbrev pub at_bad : State → Phase → Outcome
at_bad core Over = useless core ReelEnded
at_bad core Broken = broken core reasons.Broken
at_bad core (DataPassed heading) = passed core (DataPassed heading)
at_bad core (DataWanted heading form seen) =
    if nat_lt seen (block_of core.position) then passed core (DataWanted heading form (seen + 1))
    else useless core BadItem
at_bad core _ = useless core BadItem

-- the end of the reel
abbrev pub at_reel_end : State → Phase → Outcome
at_reel_end core Broken = broken core reasons.Broken
at_reel_end core _ = useless core ReelEnded

-- an item of the reel
abbrev pub at_item : State → Phase → TapeItem → Outcome
at_item core phase (block bytes) = at_block core phase bytes
at_item core phase mark = at_mark core phase
at_item core phase bad = at_bad core phase

-- an item, or the end of the reel
abbrev pub at_arrival : State → Phase → Option TapeItem → Outcome
at_arrival core phase None = at_reel_end core phase
at_arrival core phase (Some item) = at_item core phase item

-- a complete file stays complete, whatever the item
abbrev pub unless_complete : State → Position → Outcome → Outcome
unless_complete core Finished other = (Complete, core)
unless_complete core (Awaits sect b part) other = other

-- one step, for an item, or for `None` at the end of the reel
abbrev pub step_of : State → Option TapeItem → Outcome
step_of core arrived = unless_complete core core.position (at_arrival core core.phase arrived)

-- ---- the other calls

-- a reader at the start of a file
abbrev pub reader_of : List ℕ → ℕ → State
reader_of set_id file = record {
  set_id = set_id;
  file = file;
  position = start;
  begun = false;
  known = None;
  phase = Over;
}

-- the phase at the start of a reel
abbrev pub mounted : Phase → Position → Phase
mounted Broken p = Broken
mounted _ Finished = Over
mounted _ (Awaits sect b part) = Volume

abbrev pub mount_of : State → State
mount_of core = in_phase core (mounted core.phase core.position)

-- the shape of the reader's blocks is that of the form
pub record IsShapeOf (form : FileForm) (shape : Shape) : Type 0 where
  pub format : shape.format ≡ form.format
  pub rec_len : shape.rec_len ≡ form.rec_len
  pub offset : shape.offset ≡ form.offset
  pub block_len : shape.block_len ≡ 0
  pub pad_full : shape.pad_full ≡ false

-- the shape is that of the form; there is no shape if the form is unknown
abbrev pub Shows : Option FileForm → Option Shape → Type 0
Shows None None = Unit {0}
Shows (Some form) (Some shape) = IsShapeOf form shape
Shows _ _ = ⊥

-- the checkpoint of the reader's position, with the weight of the parts kept
abbrev pub saved : State → ℕ → Point
saved core staged = record {
  set_id = core.set_id;
  file = core.file;
  position = core.position;
  begun = core.begun;
  known = core.known;
  staged = staged;
}

-- the reader at the checkpoint's position, with no reading in progress; a checkpoint of another set
-- or file is refused, and changes nothing
abbrev pub restart_of : State → Point → Result (Unit {0}) CoreFault × State
restart_of core point =
    if bytes_eq core.set_id point.set_id && (core.file == point.file)
    then (
      Ok tt,
      record core {
        position = point.position;
        begun = point.begun;
        known = point.known;
        phase = Over;
      },
    )
    else (Err OtherFile, core)
