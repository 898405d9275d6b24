-- Only the expected block is delivered, and what is known of it.
use Rattle.std.proofs.Common.{◌≡◌, ◌≢◌, ℕ, List, Bool, true, false, cond}
use Rattle.std.proofs.Common.{Option, Some, Result, Ok, Err, refl, ◌==◌, not, nat_lt}
use Rattle.std.specs.Str.{bytes_eq}
use Rattle.tape_image.specs.Tape.{block}
use Rattle.tape_label.specs.{declared.values.Kind.Kind, declared.values.Head1.Head1, Kinds.kind_at}
use Rattle.tape_label.specs.{declared.values.Head2.Head2, declared.values.Trail1.Trail1}
use Rattle.tape_label.specs.{declared.label.LabelFault.LabelFault, VolumeLabels.is_volume_label}
use Rattle.tape_label.specs.Reading.{head1_at, head2_at, trail1_at}
use Rattle.tape_label.specs.declared.values.Kind.TheVariants as kinds
use Rattle.tape_set.specs.{declared.position.Position.Position, Position.sect_of, Position.block_of}
use Rattle.tape_set.specs.declared.position.Position.TheVariants.{Awaits, Finished}
use Rattle.tape_set.specs.Lawful.{FileForm, label_count}
use Rattle.tape_core.specs.declared.event.Phase.TheVariants.{Volume, VolumeLabels, Header2}
use Rattle.tape_core.specs.declared.event.Phase.TheVariants.{DataWanted, TrailerPassed}
use Rattle.tape_core.specs.Table.{Outcome, at_head1, at_head2, other_numbers, at_passed_trailer}
use Rattle.tape_core.specs.Table.{at_end, at_wanted_trailer, first_labels, first_label}
use Rattle.tape_core.specs.declared.event.Phase.TheVariants.{TrailerWanted, NextFile}
use Rattle.tape_core.specs.Table.{second_label, at_block, unless_complete, step_of}
use Rattle.tape_core.specs.{declared.event.Heading.Heading, State.State, State.wants_data}
use Rattle.tape_core.specs.{declared.event.Phase.Phase, declared.event.Answer.TheVariants.Deliver}
use Rattle.tape_core.specs.Labels.{form_at, other_file_id, other_shape}

pick : (t : Bool) (a b : Outcome) → a.0 ≢ Deliver → b.0 ≢ Deliver → (cond t a b).0 ≢ Deliver
pick true a b x y = x
pick false a b x y = y

head1 : (core : State) (r : Result Head1 LabelFault) → (at_head1 core r).0 ≢ Deliver
head1 core (Err fault) = λ e. cc
head1 core (Ok h) =
    pick (not (bytes_eq h.set_id core.set_id)) _ _ (λ e. cc)
    (pick (nat_lt h.sequence core.file) _ _ (λ e. cc)
    (pick (nat_lt core.file h.sequence) _ _ (λ e. cc)
    (pick (nat_lt h.sect (sect_of core.position)) _ _ (λ e. cc)
    (pick (nat_lt (sect_of core.position) h.sect) _ _ (λ e. cc)
    (pick (other_file_id core.known h.file_id) _ _ (λ e. cc) (λ e. cc))))))

pub head2 : (core : State) (heading : Heading) (r : Result Head2 LabelFault)
    → (at_head2 core heading r).0 ≢ Deliver
head2 core heading (Err fault) = λ e. cc
head2 core heading (Ok g) =
    pick (other_shape core.known (form_at heading g)) _ _ (λ e. cc) (λ e. cc)

passed_trailer : (core : State) (heading : Heading) (r : Result Trail1 LabelFault)
    → (at_passed_trailer core heading r).0 ≢ Deliver
passed_trailer core heading (Err fault) = λ e. cc
passed_trailer core heading (Ok t) = pick (other_numbers heading t) _ _ (λ e. cc) (λ e. cc)

ended : (core : State) (form : FileForm) (eof : Bool) → (at_end core form eof).0 ≢ Deliver
ended core form true = pick core.begun _ _ (λ e. cc) (λ e. cc)
ended core form false = pick (not (nat_lt (sect_of core.position) 9999)) _ _ (λ e. cc) (λ e. cc)

wanted_trailer : (core : State) (heading : Heading) (form : FileForm) (r : Result Trail1 LabelFault)
    → (at_wanted_trailer core heading form r).0 ≢ Deliver
wanted_trailer core heading form (Err fault) = λ e. cc
wanted_trailer core heading form (Ok t) =
    pick (other_numbers heading t) _ _ (λ e. cc)
    (pick (not (t.blocks == label_count (block_of core.position))) _ _ (λ e. cc)
    (ended core form t.eof))

labels : (core : State) (bytes : List ℕ) (k : Option Kind)
    → (first_labels core bytes k).0 ≢ Deliver
labels core bytes (Some kinds.Hdr1) = head1 core (head1_at bytes)
labels core bytes k = λ e. cc

first : (core : State) (k : Option Kind) → (first_label core k).0 ≢ Deliver
first core (Some kinds.Vol1) = λ e. cc
first core k = λ e. cc

second : (core : State) (heading : Heading) (wanted : Bool) (bytes : List ℕ) (k : Option Kind)
    → (second_label core heading wanted bytes k).0 ≢ Deliver
second core heading true bytes (Some kinds.Hdr2) = head2 core heading (head2_at bytes)
second core heading false bytes (Some kinds.Hdr2) = λ e. cc
second core heading wanted bytes k = λ e. cc

other_block : (core : State) (phase : Phase) (bytes : List ℕ) → wants_data phase ≡ false
    → (at_block core phase bytes).0 ≢ Deliver
other_block core Volume bytes w = first core (kind_at bytes)
other_block core VolumeLabels bytes w =
    pick (is_volume_label bytes) _ _ (λ e. cc) (labels core bytes (kind_at bytes))
other_block core (Header2 heading wanted) bytes w =
    second core heading wanted bytes (kind_at bytes)
other_block core (DataWanted heading form seen) bytes w = absurd (cc)
other_block core (TrailerPassed heading) bytes w = passed_trailer core heading (trail1_at bytes)
other_block core (TrailerWanted heading form) bytes w =
    wanted_trailer core heading form (trail1_at bytes)
other_block core NextFile bytes w = head1 core (head1_at bytes)
other_block core phase bytes w = λ e. cc

other_phase : (z : Phase) → ((heading : Heading) (form : FileForm) (seen : ℕ)
    → z ≡ DataWanted heading form seen → ⊥) → wants_data z ≡ false
other_phase (DataWanted heading form seen) n = absurd (n heading form seen refl)
other_phase z n = refl

-- a block is delivered only if data of the section needed are expected
pub only_data : (core : State) (bytes : List ℕ) → ((heading : Heading) (form : FileForm) (seen : ℕ)
    → core.phase ≡ DataWanted heading form seen → ⊥)
    → (step_of core (Some (block bytes))).0 ≢ Deliver
only_data core bytes other =
    go core.position (other_block core core.phase bytes (other_phase core.phase other))
  where
    go : (p : Position) → (at_block core core.phase bytes).0 ≢ Deliver
        → (unless_complete core p (at_block core core.phase bytes)).0 ≢ Deliver
    go Finished n = λ e. cc
    go (Awaits sect b part) n = n
