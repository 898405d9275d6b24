-- On any reel, the data of the section needed begin after a tape mark.
use Rattle.std.proofs.Common.{◌≡◌, ◌≢◌, ◌⊎◌, inl, inr, ℕ, Bool, true, false, List, Option, Some, None}
use Rattle.std.proofs.Common.{Result, Ok, Err, refl, sym, subst, if◌then◌else◌, not, nat_lt}
use Rattle.std.specs.{Prelude.⊤, Str.bytes_eq}
use Rattle.tape_image.specs.Tape.{TapeItem, block, bad, mark}
use Rattle.tape_label.specs.declared.values.Kind.TheVariants.{Vol1 as AVol1, Hdr1 as AHdr1}
use Rattle.tape_label.specs.declared.values.Kind.TheVariants.{Hdr2 as AHdr2}
use Rattle.tape_label.specs.{VolumeLabels.is_volume_label, Kinds.kind_at, declared.values.Kind.Kind}
use Rattle.tape_label.specs.declared.values.{Head1.Head1, Head2.Head2, Trail1.Trail1}
use Rattle.tape_label.specs.declared.label.LabelFault.{LabelFault}
use Rattle.tape_label.specs.Reading.{head1_at, head2_at, trail1_at, wide_head2_at}
use Rattle.tape_label.specs.WideHead2.{absent_head2, is_further_header}
use Rattle.tape_set.specs.declared.position.Position.{Position}
use Rattle.tape_set.specs.declared.position.Position.TheVariants.{Awaits, Finished}
use Rattle.tape_set.specs.{Position.sect_of, Lawful.FileForm}
use Rattle.tape_core.specs.declared.event.{Reason.Reason, Heading.Heading}
use Rattle.tape_core.specs.declared.event.{Phase.Phase}
use Rattle.tape_core.specs.declared.event.Answer.TheVariants.{Passed}
use Rattle.tape_core.specs.declared.event.Reason.TheVariants.{SectionDiffers}
use Rattle.tape_core.specs.declared.event.Phase.TheVariants.{Over, Broken, Volume, VolumeLabels}
use Rattle.tape_core.specs.declared.event.Phase.TheVariants.{Header2, Headers, DataPassed}
use Rattle.tape_core.specs.declared.event.Phase.TheVariants.{DataWanted, TrailerPassed}
use Rattle.tape_core.specs.declared.event.Phase.TheVariants.{TrailerWanted, Trailers, NextFile}
use Rattle.tape_core.specs.Table.{Outcome, in_phase, passed, useless, broken, first_label, at_head1}
use Rattle.tape_core.specs.Table.{first_labels, at_head2, second_label, at_passed_trailer, at_mark}
use Rattle.tape_core.specs.Table.{at_block, at_bad, at_item, unless_complete, other_numbers}
use Rattle.tape_core.specs.{Labels.other_file_id, Labels.other_shape, Labels.form_at, State.State}
use Rattle.tape_core.specs.Table as Table
use Rattle.tape_core.specs.Wide as Wide
use Rattle.tape_core.specs.Wide.{step_by}
use Rattle.tape_core.specs.Overlap.{EndsSection}
use Rattle.tape_run.specs.Reels.{GoesOn}

-- neither the data of the section needed nor its trailer come next
abbrev pub IsOutside : Phase → Type 0
IsOutside (DataWanted heading form seen) = ⊥
IsOutside (TrailerWanted heading form) = ⊥
IsOutside _ = ⊤

-- outside of the section needed nothing is delivered, and only a mark opens its data
abbrev pub Opened : State → TapeItem → Outcome → Type 0
Opened core x out = (out.0 ≡ Passed) × (out.1.position ≡ core.position)
    × (IsOutside out.1.phase ⊎ ((x ≡ mark) × ((heading : Heading) × (form : FileForm)
    × (out.1.phase ≡ DataWanted heading form 0))))

pub record Opens (core : State) (x : TapeItem) (out : Outcome) : Type 0 where
  pub goes : GoesOn out.0 → Opened core x out
  pub ends : EndsSection out.0 → ⊥

passed_on : EndsSection Passed → ⊥
passed_on (inl e) = cc e
passed_on (inr e) = cc e

module _ (core : State) (x : TapeItem) where
  choose : (c : Bool) (a b : Outcome) → Opens core x a → Opens core x b
      → Opens core x (if c then a else b)
  choose true a b f g = f
  choose false a b f g = g

  ps : (phase : Phase) → IsOutside phase → Opens core x (passed core phase)
  ps phase out = record { goes = λ g. (refl, refl, inl out); ends = passed_on }

  us : {why : Reason} → Opens core x (useless core why)
  us = record {
    goes = λ g. absurd (elim g [ inl e ↦ cc e | inr e ↦ cc e ]);
    ends = λ g. elim g [ inl e ↦ cc e | inr e ↦ cc e ];
  }

  br : {why : Reason} → Opens core x (broken core why)
  br = record {
    goes = λ g. absurd (elim g [ inl e ↦ cc e | inr e ↦ cc e ]);
    ends = λ g. elim g [ inl e ↦ cc e | inr e ↦ cc e ];
  }

  head1_opens : (h : Result Head1 LabelFault) → Opens core x (at_head1 core h)
  head1_opens (Err fault) = us
  head1_opens (Ok h) =
      choose (not (bytes_eq h.set_id core.set_id)) _ _ us
      (choose (nat_lt h.sequence core.file) _ _ (ps _ tt)
      (choose (nat_lt core.file h.sequence) _ _ us
      (choose (nat_lt h.sect (sect_of core.position)) _ _ us
      (choose (nat_lt (sect_of core.position) h.sect) _ _ us
      (choose (other_file_id core.known h.file_id) _ _ us (ps _ tt))))))

  first_opens : (kind : Option Kind) → Opens core x (first_label core kind)
  first_opens (Some AVol1) = ps _ tt
  first_opens _ = us

  labels_open : (bytes : List ℕ) (kind : Option Kind) → Opens core x (first_labels core bytes kind)
  labels_open bytes (Some AHdr1) = head1_opens (head1_at bytes)
  labels_open bytes _ = us

  head2_opens : (heading : Heading) (g : Result Head2 LabelFault)
      → Opens core x (at_head2 core heading g)
  head2_opens heading (Err fault) = us
  head2_opens heading (Ok g) =
      choose (other_shape core.known (form_at heading g)) _ _ us (ps _ tt)

  second_opens : (heading : Heading) (wanted : Bool) (bytes : List ℕ) (kind : Option Kind)
      → Opens core x (second_label core heading wanted bytes kind)
  second_opens heading false bytes (Some AHdr2) = ps _ tt
  second_opens heading true bytes (Some AHdr2) = head2_opens heading (head2_at bytes)
  second_opens heading wanted bytes _ = us

  passed_opens : (heading : Heading) (t : Result Trail1 LabelFault)
      → Opens core x (at_passed_trailer core heading t)
  passed_opens heading (Err fault) = us
  passed_opens heading (Ok t) = choose (other_numbers heading t) _ _ us (ps _ tt)

  block_opens : (phase : Phase) (bytes : List ℕ) → IsOutside phase
      → Opens core x (at_block core phase bytes)
  block_opens Over bytes o = us
  block_opens Broken bytes o = br
  block_opens Volume bytes o = first_opens (kind_at bytes)
  block_opens VolumeLabels bytes o = choose (is_volume_label bytes) _ _ (ps _ tt)
      (labels_open bytes (kind_at bytes))
  block_opens (Header2 heading wanted) bytes o = second_opens heading wanted bytes (kind_at bytes)
  block_opens (Headers heading wanted) bytes o = ps _ tt
  block_opens (DataPassed heading) bytes o = ps _ tt
  block_opens (DataWanted heading form seen) bytes o = absurd o
  block_opens (TrailerPassed heading) bytes o = passed_opens heading (trail1_at bytes)
  block_opens (TrailerWanted heading form) bytes o = absurd o
  block_opens Trailers bytes o = ps _ tt
  block_opens NextFile bytes o = head1_opens (head1_at bytes)

  mark_opens : (phase : Phase) → x ≡ mark → IsOutside phase → Opens core x (at_mark core phase)
  mark_opens Broken is o = br
  mark_opens (Headers heading None) is o = ps _ tt
  mark_opens (Headers heading (Some form)) is o =
      record { goes = λ g. (refl, refl, inr (is, (heading, form, refl))); ends = passed_on }
  mark_opens (DataPassed heading) is o = ps _ tt
  mark_opens (DataWanted heading form seen) is o = absurd o
  mark_opens (TrailerWanted heading form) is o = absurd o
  mark_opens Trailers is o = ps _ tt
  mark_opens _ is o = us

  bad_opens : (phase : Phase) → IsOutside phase → Opens core x (at_bad core phase)
  bad_opens Broken o = br
  bad_opens (DataPassed heading) o = ps _ tt
  bad_opens (DataWanted heading form seen) o = absurd o
  bad_opens (TrailerWanted heading form) o = absurd o
  bad_opens _ o = us

  unless_opens : (there : State) (p : Position) (out : Outcome) → p ≢ Finished → Opens core x out
      → Opens core x (unless_complete there p out)
  unless_opens there Finished out waits o = absurd (waits refl)
  unless_opens there (Awaits sect b part) out waits o = o

item_opens : (core : State) (phase : Phase) (x : TapeItem) → IsOutside phase
    → Opens core x (at_item core phase x)
item_opens core phase (block bytes) o = block_opens core (block bytes) phase bytes o
item_opens core phase mark o = mark_opens core mark phase refl o
item_opens core phase bad o = bad_opens core bad phase o

table_opens : (core : State) (x : TapeItem) → core.position ≢ Finished → IsOutside core.phase
    → Opens core x (Table.step_of core (Some x))
table_opens core x waits o =
    unless_opens core x core core.position _ waits (item_opens core core.phase x o)

-- ---- the wider reading

-- after absent second labels, a mark
then_opens : (core : State) (heading : Heading) (wanted : Bool) → core.position ≢ Finished
    → Opens core mark (Wide.and_then (Wide.without_second core heading wanted) (Some mark))
then_opens core heading false waits = unless_opens core mark
    (in_phase core (Headers heading None)) core.position
    (passed core (DataPassed heading)) waits (ps core mark (DataPassed heading) tt)
then_opens core heading true waits =
    by (other_shape core.known (form_at heading absent_head2)) SectionDiffers
  where
    by : (c : Bool) (why : Reason) → Opens core mark (Wide.and_then (if c then useless core why else
        passed core (Headers heading (Some (form_at heading absent_head2)))) (Some mark))
    by true why = us core mark
    by false why = unless_opens core mark
        (in_phase core (Headers heading (Some (form_at heading absent_head2)))) core.position
        (passed core (DataWanted heading (form_at heading absent_head2) 0)) waits
        (record {
          goes = λ g. (refl, refl, inr (refl, (heading, form_at heading absent_head2, refl)));
          ends = passed_on;
        })

wide_second_opens : (core : State) (x : TapeItem) (heading : Heading) (wanted : Bool)
    (bytes : List ℕ) (kind : Option Kind)
    → Opens core x (Wide.second_label core heading wanted bytes kind)
wide_second_opens core x heading false bytes (Some AHdr2) = ps core x _ tt
wide_second_opens core x heading true bytes (Some AHdr2) =
    head2_opens core x heading (wide_head2_at bytes)
wide_second_opens core x heading true bytes _ = choose core x (is_further_header bytes) _ _
    (head2_opens core x heading (Ok absent_head2)) (us core x)
wide_second_opens core x heading false bytes _ = choose core x (is_further_header bytes) _ _
    (ps core x _ tt) (us core x)

phase_opens : (core : State) (phase : Phase) (p : Position) (x : TapeItem)
    → core.phase ≡ phase → core.position ≢ Finished → IsOutside phase
    → Opens core x (Wide.by_phase core phase p (Some x))
phase_opens core (Header2 heading wanted) (Awaits sect b part) (block bytes) e waits o =
    wide_second_opens core (block bytes) heading wanted bytes (kind_at bytes)
phase_opens core (Header2 heading wanted) (Awaits sect b part) mark e waits o =
    then_opens core heading wanted waits
phase_opens core (Header2 heading wanted) (Awaits sect b part) bad e waits o =
    table_opens core bad waits (subst IsOutside (sym e) o)
phase_opens core (Header2 heading wanted) Finished x e waits o =
    table_opens core x waits (subst IsOutside (sym e) o)
phase_opens core phase p x e waits o = table_opens core x waits (subst IsOutside (sym e) o)

same_item : (phase : Phase) (x : TapeItem) → IsOutside phase → Wide.item_by phase x ≡ x
same_item (DataWanted heading form seen) x o = absurd o
same_item _ (block bytes) o = refl
same_item _ mark o = refl
same_item _ bad o = refl

pub step_opens : (wide : Bool) (core : State) (x : TapeItem) → core.position ≢ Finished
    → IsOutside core.phase → Opens core x (step_by wide core (Some x))
step_opens false core x waits o = table_opens core x waits o
step_opens true core x waits o =
    subst (λ y. Opens core x (Wide.step_of core (Some y))) (sym (same_item core.phase x o))
    (phase_opens core core.phase core.position x refl waits o)
