-- No step changes the set or the file, whatever the item.
use Rattle.std.proofs.Common.{◌≡◌, ℕ, List, Bool, true, false, cond, Option, Some, None, Result, Ok}
use Rattle.std.proofs.Common.{Err, refl, ap, ◌∙◌, ◌==◌, not, nat_lt}
use Rattle.std.specs.Str.{bytes_eq}
use Rattle.tape_image.specs.Tape.{TapeItem, block, bad, mark}
use Rattle.tape_label.specs.{declared.values.Kind.Kind, declared.values.Head1.Head1, Kinds.kind_at}
use Rattle.tape_label.specs.{declared.values.Head2.Head2, declared.values.Trail1.Trail1}
use Rattle.tape_label.specs.{declared.label.LabelFault.LabelFault, VolumeLabels.is_volume_label}
use Rattle.tape_label.specs.Reading.{head1_at, head2_at, trail1_at}
use Rattle.tape_label.specs.declared.values.Kind.TheVariants as kinds
use Rattle.tape_blocks.specs.{declared.check.BlockFault.BlockFault, Judged.judged}
use Rattle.tape_set.specs.declared.position.Position.{Position}
use Rattle.tape_set.specs.declared.position.Position.TheVariants.{Awaits, Finished}
use Rattle.tape_set.specs.Position.{sect_of, block_of, part_of}
use Rattle.tape_set.specs.Lawful.{FileForm, label_count, most_blocks}
use Rattle.tape_core.specs.declared.event.Phase.TheVariants.{Broken, Volume, VolumeLabels, Header2}
use Rattle.tape_core.specs.declared.event.Phase.TheVariants.{DataWanted, TrailerPassed}
use Rattle.tape_core.specs.Table.{Outcome, at_head1, at_head2, other_numbers, at_passed_trailer}
use Rattle.tape_core.specs.Table.{at_end, at_wanted_trailer, at_judged, at_awaited, first_labels}
use Rattle.tape_core.specs.Table.{first_label, second_label, at_block, at_mark, at_bad, at_reel_end}
use Rattle.tape_core.specs.{declared.event.Heading.Heading, declared.event.Phase.Phase, State.State}
use Rattle.tape_core.specs.declared.event.Phase.TheVariants.{TrailerWanted, NextFile}
use Rattle.tape_core.specs.Labels.{form_at, other_file_id, other_shape}
use Rattle.tape_core.specs.Parts.{begun_before, other_front}
use Rattle.tape_core.specs.Table.{at_arrival, unless_complete, step_of}

-- the set and the file after a step are those before it
pub record Same (core : State) (out : Outcome) : Type 0 where
  pub set_id : out.1.set_id ≡ core.set_id
  pub file : out.1.file ≡ core.file

same : (core : State) (out : Outcome) → out.1.set_id ≡ core.set_id → out.1.file ≡ core.file
    → Same core out
same core out a b = record { set_id = a; file = b }

pick : (core : State) (t : Bool) (a b : Outcome) → Same core a → Same core b
    → Same core (cond t a b)
pick core true a b x y = x
pick core false a b x y = y

same_head1 : (core : State) (r : Result Head1 LabelFault) → Same core (at_head1 core r)
same_head1 core (Err fault) = same core _ refl refl
same_head1 core (Ok h) =
    pick core (not (bytes_eq h.set_id core.set_id)) _ _ (same core _ refl refl)
    (pick core (nat_lt h.sequence core.file) _ _ (same core _ refl refl)
    (pick core (nat_lt core.file h.sequence) _ _ (same core _ refl refl)
    (pick core (nat_lt h.sect (sect_of core.position)) _ _ (same core _ refl refl)
    (pick core (nat_lt (sect_of core.position) h.sect) _ _ (same core _ refl refl)
    (pick core (other_file_id core.known h.file_id) _ _ (same core _ refl refl)
    (same core _ refl refl))))))

pub same_head2 : (core : State) (heading : Heading) (r : Result Head2 LabelFault)
    → Same core (at_head2 core heading r)
same_head2 core heading (Err fault) = same core _ refl refl
same_head2 core heading (Ok g) = pick core (other_shape core.known (form_at heading g)) _ _
    (same core _ refl refl) (same core _ refl refl)

same_passed : (core : State) (heading : Heading) (r : Result Trail1 LabelFault)
    → Same core (at_passed_trailer core heading r)
same_passed core heading (Err fault) = same core _ refl refl
same_passed core heading (Ok t) =
    pick core (other_numbers heading t) _ _ (same core _ refl refl) (same core _ refl refl)

same_end : (core : State) (form : FileForm) (eof : Bool) → Same core (at_end core form eof)
same_end core form true = pick core core.begun _ _ (same core _ refl refl) (same core _ refl refl)
same_end core form false = pick core (not (nat_lt (sect_of core.position) 9999)) _ _
    (same core _ refl refl) (same core _ refl refl)

same_trailer : (core : State) (heading : Heading) (form : FileForm) (r : Result Trail1 LabelFault)
    → Same core (at_wanted_trailer core heading form r)
same_trailer core heading form (Err fault) = same core _ refl refl
same_trailer core heading form (Ok t) =
    pick core (other_numbers heading t) _ _ (same core _ refl refl)
    (pick core (not (t.blocks == label_count (block_of core.position))) _ _ (same core _ refl refl)
    (same_end core form t.eof))

same_judged : (core : State) (heading : Heading) (form : FileForm) (bytes : List ℕ)
    (r : Result Bool BlockFault)
    → Same core (at_judged core heading form bytes r)
same_judged core heading form bytes (Err fault) = same core _ refl refl
same_judged core heading form bytes (Ok end) = pick core (other_front form
    (part_of core.position) core.begun bytes) _ _ (same core _ refl refl) (same core _ refl refl)

same_awaited : (core : State) (heading : Heading) (form : FileForm) (bytes : List ℕ)
    → Same core (at_awaited core heading form bytes)
same_awaited core heading form bytes =
    pick core (not (nat_lt (block_of core.position) most_blocks)) _ _ (same core _ refl refl)
    (same_judged core heading form bytes (judged form.format form.rec_len form.offset
    (begun_before form (part_of core.position) core.begun bytes) bytes))

same_labels : (core : State) (bytes : List ℕ) (k : Option Kind)
    → Same core (first_labels core bytes k)
same_labels core bytes (Some kinds.Hdr1) = same_head1 core (head1_at bytes)
same_labels core bytes k = same core _ refl refl

same_first : (core : State) (k : Option Kind) → Same core (first_label core k)
same_first core (Some kinds.Vol1) = same core _ refl refl
same_first core k = same core _ refl refl

same_second : (core : State) (heading : Heading) (wanted : Bool) (bytes : List ℕ) (k : Option Kind)
    → Same core (second_label core heading wanted bytes k)
same_second core heading true bytes (Some kinds.Hdr2) = same_head2 core heading (head2_at bytes)
same_second core heading false bytes (Some kinds.Hdr2) = same core _ refl refl
same_second core heading wanted bytes k = same core _ refl refl

same_block : (core : State) (phase : Phase) (bytes : List ℕ) → Same core (at_block core phase bytes)
same_block core Volume bytes = same_first core (kind_at bytes)
same_block core VolumeLabels bytes = pick core (is_volume_label bytes) _ _ (same core _ refl refl)
    (same_labels core bytes (kind_at bytes))
same_block core (Header2 heading wanted) bytes =
    same_second core heading wanted bytes (kind_at bytes)
same_block core (DataWanted heading form seen) bytes = pick core (nat_lt seen
    (block_of core.position)) _ _ (same core _ refl refl) (same_awaited core heading form bytes)
same_block core (TrailerPassed heading) bytes = same_passed core heading (trail1_at bytes)
same_block core (TrailerWanted heading form) bytes =
    same_trailer core heading form (trail1_at bytes)
same_block core NextFile bytes = same_head1 core (head1_at bytes)
same_block core phase bytes = same core _ refl refl

same_mark : (core : State) (phase : Phase) → Same core (at_mark core phase)
same_mark core (DataWanted heading form seen) = pick core (nat_lt seen (block_of core.position)) _ _
    (same core _ refl refl) (same core _ refl refl)
same_mark core phase = same core _ refl refl

same_bad : (core : State) (phase : Phase) → Same core (at_bad core phase)
same_bad core (DataWanted heading form seen) = pick core (nat_lt seen (block_of core.position)) _ _
    (same core _ refl refl) (same core _ refl refl)
same_bad core phase = same core _ refl refl

same_reel_end : (core : State) (phase : Phase) → Same core (at_reel_end core phase)
same_reel_end core Broken = same core _ refl refl
same_reel_end core phase = same core _ refl refl

same_arrival : (core : State) (phase : Phase) (arrived : Option TapeItem)
    → Same core (at_arrival core phase arrived)
same_arrival core phase None = same_reel_end core phase
same_arrival core phase (Some (block bytes)) = same_block core phase bytes
same_arrival core phase (Some mark) = same_mark core phase
same_arrival core phase (Some bad) = same_bad core phase

same_unless : (core : State) (p : Position) (out : Outcome) → Same core out
    → Same core (unless_complete core p out)
same_unless core Finished out s = same core _ refl refl
same_unless core (Awaits sect b part) out s = s

pub same_step : (core : State) (arrived : Option TapeItem) → Same core (step_of core arrived)
same_step core arrived = same_unless core core.position (at_arrival core core.phase arrived)
    (same_arrival core core.phase arrived)

-- the file is the same after any item
pub step_set_id : (core : State) (out : Outcome) (arrived : Option TapeItem)
    → out ≡ step_of core arrived → out.1.set_id ≡ core.set_id
step_set_id core out arrived is = ap (λ z. z.1.set_id) is ∙ (same_step core arrived).set_id

pub step_file : (core : State) (out : Outcome) (arrived : Option TapeItem)
    → out ≡ step_of core arrived → out.1.file ≡ core.file
step_file core out arrived is = ap (λ z. z.1.file) is ∙ (same_step core arrived).file
