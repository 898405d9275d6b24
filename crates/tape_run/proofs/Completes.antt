-- A step that reaches the file's end answers Complete.
use Rattle.std.proofs.Common.{◌≡◌, ℕ, ◌+◌, Bool, true, false, List, Option, Some, None, Result, Ok}
use Rattle.std.proofs.Common.{Err, refl, sym, ap, ◌∙◌, if◌then◌else◌, not, nat_lt, ◌==◌}
use Rattle.std.specs.Str.{bytes_eq}
use Rattle.tape_label.specs.declared.values.Kind.TheVariants.{Vol1 as AVol1, Hdr1 as AHdr1}
use Rattle.tape_label.specs.{VolumeLabels.is_volume_label, Kinds.kind_at, declared.values.Kind.Kind}
use Rattle.tape_label.specs.{declared.values.Head1.Head1, declared.values.Head2.Head2}
use Rattle.tape_label.specs.{declared.values.Trail1.Trail1, declared.label.LabelFault.LabelFault}
use Rattle.tape_label.specs.declared.values.Kind.TheVariants.{Hdr2 as AHdr2}
use Rattle.tape_label.specs.Reading.{head1_at, head2_at, trail1_at, wide_head2_at}
use Rattle.tape_label.specs.WideHead2.{absent_head2, is_further_header}
use Rattle.tape_core.specs.declared.event.Phase.TheVariants.{Over, Volume, VolumeLabels, Header2}
use Rattle.tape_core.specs.declared.event.Phase.TheVariants.{DataWanted, TrailerPassed}
use Rattle.tape_core.specs.Table.{Outcome, first_label, at_head1, first_labels, at_head2, at_block}
use Rattle.tape_core.specs.Table.{second_label, at_judged, at_data, at_passed_trailer, at_end}
use Rattle.tape_core.specs.Table.{at_wanted_trailer, at_mark, at_bad, at_reel_end, at_arrival}
use Rattle.tape_core.specs.{Labels.other_file_id, Labels.other_shape, Labels.form_at, State.State}
use Rattle.tape_core.specs.{declared.event.Answer.TheVariants.Complete, declared.event.Phase.Phase}
use Rattle.tape_core.specs.declared.event.Answer.TheVariants.{Passed}
use Rattle.tape_core.specs.{declared.event.Heading.Heading, Parts.begun_before, Parts.other_front}
use Rattle.tape_core.specs.declared.event.Phase.TheVariants.{TrailerWanted, NextFile}
use Rattle.tape_core.specs.Table.{unless_complete, other_numbers}
use Rattle.tape_core.specs.Table as Table
use Rattle.tape_core.specs.Wide as Wide
use Rattle.tape_core.specs.Wide.{step_by}
use Rattle.tape_image.specs.Tape.{TapeItem, block, bad, mark}
use Rattle.tape_blocks.specs.{declared.check.BlockFault.BlockFault, Judged.judged}
use Rattle.tape_set.specs.declared.position.Position.{Position}
use Rattle.tape_set.specs.declared.position.Position.TheVariants.{Awaits, Finished}
use Rattle.tape_set.specs.Position.{next_block, next_section, sect_of, block_of, part_of}
use Rattle.tape_set.specs.Lawful.{FileForm, label_count, most_blocks}

pub record Tells (out : Outcome) : Type 0 where
  pub told : out.1.position ≡ Finished → out.0 ≡ Complete

choose : (c : Bool) (x y : Outcome) → Tells x → Tells y → Tells (if c then x else y)
choose true x y f g = f
choose false x y f g = g

module _ (core : State) (sect b part : ℕ) (waits : core.position ≡ Awaits sect b part) where
  no : {out : Outcome} → out.1.position ≡ core.position → Tells out
  no same = record {
    told = λ e. absurd (let d : Awaits sect b part ≡ Finished = sym waits ∙ sym same ∙ e in cc);
  }

  no_block : {out : Outcome} → out.1.position ≡ next_block core.position → Tells out
  no_block same = record {
    told = λ e. absurd (let d : Awaits sect (b + 1) 0 ≡ Finished =
        sym (ap next_block waits) ∙ sym same ∙ e in cc);
  }

  no_section : {out : Outcome} → out.1.position ≡ next_section core.position → Tells out
  no_section same = record {
    told = λ e. absurd (let d : Awaits (sect + 1) 0 0 ≡ Finished =
        sym (ap next_section waits) ∙ sym same ∙ e in cc);
  }

  head1_tells : (h : Result Head1 LabelFault) → Tells (at_head1 core h)
  head1_tells (Err fault) = (no refl)
  head1_tells (Ok h) =
      choose (not (bytes_eq h.set_id core.set_id)) _ _ (no refl)
      (choose (nat_lt h.sequence core.file) _ _ (no refl)
      (choose (nat_lt core.file h.sequence) _ _ (no refl)
      (choose (nat_lt h.sect (sect_of core.position)) _ _ (no refl)
      (choose (nat_lt (sect_of core.position) h.sect) _ _ (no refl)
      (choose (other_file_id core.known h.file_id) _ _ (no refl) (no refl))))))

  first_tells : (kind : Option Kind) → Tells (first_label core kind)
  first_tells (Some AVol1) = (no refl)
  first_tells _ = (no refl)

  labels_tell : (bytes : List ℕ) (kind : Option Kind) → Tells (first_labels core bytes kind)
  labels_tell bytes (Some AHdr1) = head1_tells (head1_at bytes)
  labels_tell bytes _ = (no refl)

  head2_tells : (heading : Heading) (g : Result Head2 LabelFault) → Tells (at_head2 core heading g)
  head2_tells heading (Err fault) = (no refl)
  head2_tells heading (Ok g) = choose (other_shape core.known (form_at heading g)) _ _ (no refl)
      (no refl)

  second_tells : (heading : Heading) (wanted : Bool) (bytes : List ℕ) (kind : Option Kind)
      → Tells (second_label core heading wanted bytes kind)
  second_tells heading false bytes (Some AHdr2) = (no refl)
  second_tells heading true bytes (Some AHdr2) = head2_tells heading (head2_at bytes)
  second_tells heading wanted bytes _ = (no refl)

  judged_tells : (heading : Heading) (form : FileForm) (bytes : List ℕ) (r : Result Bool BlockFault)
      → Tells (at_judged core heading form bytes r)
  judged_tells heading form bytes (Err fault) = (no refl)
  judged_tells heading form bytes (Ok end) =
      choose (other_front form (part_of core.position) core.begun bytes) _ _ (no refl)
      (no_block refl)

  data_tells : (heading : Heading) (form : FileForm) (seen : ℕ) (bytes : List ℕ)
      → Tells (at_data core heading form seen bytes)
  data_tells heading form seen bytes =
      choose (nat_lt seen (block_of core.position)) _ _ (no refl)
      (choose (not (nat_lt (block_of core.position) most_blocks)) _ _ (no refl)
      (judged_tells heading form bytes (judged form.format form.rec_len form.offset
      (begun_before form (part_of core.position) core.begun bytes) bytes)))

  passed_tells : (heading : Heading) (t : Result Trail1 LabelFault)
      → Tells (at_passed_trailer core heading t)
  passed_tells heading (Err fault) = (no refl)
  passed_tells heading (Ok t) = choose (other_numbers heading t) _ _ (no refl) (no refl)

  end_tells : (form : FileForm) (eof : Bool) → Tells (at_end core form eof)
  end_tells form true = choose core.begun _ _ (no refl) (record { told = λ e. refl })
  end_tells form false = choose (not (nat_lt (sect_of core.position) 9999)) _ _ (no refl)
      (no_section refl)

  wanted_tells : (heading : Heading) (form : FileForm) (t : Result Trail1 LabelFault)
      → Tells (at_wanted_trailer core heading form t)
  wanted_tells heading form (Err fault) = (no refl)
  wanted_tells heading form (Ok t) = choose (other_numbers heading t) _ _ (no refl)
      (choose (not (t.blocks == label_count (block_of core.position))) _ _ (no refl)
      (end_tells form t.eof))

  block_tells : (phase : Phase) (bytes : List ℕ) → Tells (at_block core phase bytes)
  block_tells Volume bytes = first_tells (kind_at bytes)
  block_tells VolumeLabels bytes = choose (is_volume_label bytes) _ _ (no refl)
      (labels_tell bytes (kind_at bytes))
  block_tells (Header2 heading wanted) bytes = second_tells heading wanted bytes (kind_at bytes)
  block_tells (DataWanted heading form seen) bytes = data_tells heading form seen bytes
  block_tells (TrailerPassed heading) bytes = passed_tells heading (trail1_at bytes)
  block_tells (TrailerWanted heading form) bytes = wanted_tells heading form (trail1_at bytes)
  block_tells NextFile bytes = head1_tells (head1_at bytes)
  block_tells _ bytes = (no refl)

  mark_tells : (phase : Phase) → Tells (at_mark core phase)
  mark_tells (DataWanted heading form seen) = choose (nat_lt seen (block_of core.position)) _ _
      (no refl) (no refl)
  mark_tells _ = (no refl)

  bad_tells : (phase : Phase) → Tells (at_bad core phase)
  bad_tells (DataWanted heading form seen) = choose (nat_lt seen (block_of core.position)) _ _
      (no refl) (no refl)
  bad_tells _ = (no refl)

  end_of_reel_tells : (phase : Phase) → Tells (at_reel_end core phase)
  end_of_reel_tells Over = (no refl)
  end_of_reel_tells _ = (no refl)

  arrival_tells : (phase : Phase) (came : Option TapeItem) → Tells (at_arrival core phase came)
  arrival_tells phase None = end_of_reel_tells phase
  arrival_tells phase (Some (block bytes)) = block_tells phase bytes
  arrival_tells phase (Some mark) = mark_tells phase
  arrival_tells phase (Some bad) = bad_tells phase

by_position : (core : State) (came : Option TapeItem) (p : Position) → core.position ≡ p
    → Tells (unless_complete core p (at_arrival core core.phase came))
by_position core came Finished e = record { told = λ f. refl }
by_position core came (Awaits sect b part) e = arrival_tells core sect b part e core.phase came

table_tells : (core : State) (came : Option TapeItem) → Tells (Table.step_of core came)
table_tells core came = by_position core came core.position refl

-- ---- the wider reading

then_tells : (out : Outcome) (came : Option TapeItem) → Tells out → Tells (Wide.and_then out came)
then_tells (Passed, new) came t = table_tells new came
then_tells (_, new) came t = t

module _ (core : State) (sect b part : ℕ) (waits : core.position ≡ Awaits sect b part) where
  without_tells : (heading : Heading) (wanted : Bool)
      → Tells (Wide.without_second core heading wanted)
  without_tells heading true = head2_tells core sect b part waits heading (Ok absent_head2)
  without_tells heading false = no core sect b part waits refl

  wide_second_tells : (heading : Heading) (wanted : Bool) (bytes : List ℕ) (kind : Option Kind)
      → Tells (Wide.second_label core heading wanted bytes kind)
  wide_second_tells heading false bytes (Some AHdr2) = no core sect b part waits refl
  wide_second_tells heading true bytes (Some AHdr2) =
      head2_tells core sect b part waits heading (wide_head2_at bytes)
  wide_second_tells heading true bytes _ = choose (is_further_header bytes) _ _
      (without_tells heading true) (no core sect b part waits refl)
  wide_second_tells heading false bytes _ = choose (is_further_header bytes) _ _
      (without_tells heading false) (no core sect b part waits refl)

  wide_at_second_tells : (heading : Heading) (wanted : Bool) (came : Option TapeItem)
      → Tells (Wide.at_second core heading wanted came)
  wide_at_second_tells heading wanted (Some (block bytes)) =
      wide_second_tells heading wanted bytes (kind_at bytes)
  wide_at_second_tells heading wanted (Some mark) =
      then_tells _ (Some mark) (without_tells heading wanted)
  wide_at_second_tells heading wanted (Some bad) = table_tells core (Some bad)
  wide_at_second_tells heading wanted None = table_tells core None

phase_tells : (core : State) (phase : Phase) (p : Position) (came : Option TapeItem)
    → core.position ≡ p → Tells (Wide.by_phase core phase p came)
phase_tells core (Header2 heading wanted) (Awaits sect b part) came e =
    wide_at_second_tells core sect b part e heading wanted came
phase_tells core (Header2 heading wanted) Finished came e = table_tells core came
phase_tells core _ p came e = table_tells core came

-- If a step reaches the file's end, it answers Complete.
pub step_tells : (wide : Bool) (core : State) (came : Option TapeItem)
    → Tells (step_by wide core came)
step_tells false core came = table_tells core came
step_tells true core None = phase_tells core core.phase core.position None refl
step_tells true core (Some item) =
    phase_tells core core.phase core.position (Some (Wide.content_item core item)) refl
