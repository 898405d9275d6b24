-- After a final answer of a core nothing is delivered, and nothing that the core stores changes.
use Rattle.std.proofs.Common.{◌≡◌, ◌≢◌, ℕ, Bool, true, false, List, [], ◌∷◌, ◌++◌, Option, Some}
use Rattle.std.proofs.Common.{Result}
use Rattle.std.proofs.Common.{Ok, Err, refl, sym, ap, ◌∙◌, subst, if◌then◌else◌, not, nat_lt, ◌==◌}
use Rattle.std.specs.{Prelude.⊤, Str.bytes_eq}
use Rattle.tape_label.specs.declared.values.Kind.TheVariants.{Vol1 as AVol1, Hdr1 as AHdr1}
use Rattle.tape_label.specs.{VolumeLabels.is_volume_label, Kinds.kind_at, declared.values.Kind.Kind}
use Rattle.tape_label.specs.{declared.values.Head1.Head1, declared.values.Head2.Head2}
use Rattle.tape_label.specs.{declared.values.Trail1.Trail1, declared.label.LabelFault.LabelFault}
use Rattle.tape_label.specs.declared.values.Kind.TheVariants.{Hdr2 as AHdr2}
use Rattle.tape_label.specs.Reading.{head1_at, head2_at, trail1_at, wide_head2_at}
use Rattle.tape_label.specs.WideHead2.{absent_head2, is_further_header}
use Rattle.tape_core.specs.declared.event.Phase.TheVariants.{Over, Broken, Volume, VolumeLabels}
use Rattle.tape_core.specs.declared.event.Phase.TheVariants.{Header2, Headers, DataPassed}
use Rattle.tape_core.specs.declared.event.Phase.TheVariants.{DataWanted, TrailerPassed}
use Rattle.tape_core.specs.Table.{Outcome, passed, useless, broken, first_label, at_head1, at_block}
use Rattle.tape_core.specs.Table.{first_labels, at_head2, second_label, at_judged, at_data}
use Rattle.tape_core.specs.Table.{at_passed_trailer, at_end, at_wanted_trailer, at_mark, at_bad}
use Rattle.tape_core.specs.{Labels.other_file_id, Labels.other_shape, Labels.form_at, State.State}
use Rattle.tape_core.specs.{Parts.begun_before, Parts.other_front, Follows.IsFinal, Place.rest_of}
use Rattle.tape_core.specs.{declared.event.Answer.Answer, declared.event.Reason.Reason}
use Rattle.tape_core.specs.{declared.event.Heading.Heading, declared.event.Phase.Phase}
use Rattle.tape_core.specs.declared.event.Phase.TheVariants.{TrailerWanted, Trailers, NextFile}
use Rattle.tape_core.specs.Table.{at_item, unless_complete, other_numbers}
use Rattle.tape_core.specs.Table as Table
use Rattle.tape_core.specs.Wide as Wide
use Rattle.tape_core.specs.Wide.{step_by, read_as}
use Rattle.tape_core.specs.declared.event.Answer.TheVariants.{Passed, Deliver}
use Rattle.tape_blocks.specs.{Block.Portion, Judged.judged, declared.check.BlockFault.BlockFault}
use Rattle.tape_image.specs.Tape.{TapeItem, block, bad, mark}
use Rattle.tape_set.specs.declared.position.Position.{Position}
use Rattle.tape_set.specs.declared.position.Position.TheVariants.{Awaits, Finished}
use Rattle.tape_set.specs.Position.{next_section, sect_of, block_of, part_of}
use Rattle.tape_set.specs.Lawful.{FileForm, label_count, most_blocks}
use Rattle.tape_run.specs.{Reels.behind_items, ByTable.parts_at, ByTable.delivered_parts}
use Rattle.tape_run.specs.ByTable.{parts_by}

-- no reading is under way
abbrev pub IsIdle : Position → Phase → Type 0
IsIdle Finished phase = ⊤
IsIdle (Awaits sect b part) Over = ⊤
IsIdle (Awaits sect b part) Broken = ⊤
IsIdle (Awaits sect b part) _ = ⊥

idle_over : (p : Position) → IsIdle p Over
idle_over Finished = tt
idle_over (Awaits sect b part) = tt

idle_broken : (p : Position) → IsIdle p Broken
idle_broken Finished = tt
idle_broken (Awaits sect b part) = tt

pub record Ends (out : Outcome) : Type 0 where
  pub told : IsFinal out.0 → IsIdle out.1.position out.1.phase

choose : (c : Bool) (x y : Outcome) → Ends x → Ends y → Ends (if c then x else y)
choose true x y f g = f
choose false x y f g = g

module _ (core : State) where
  ps : {phase : Phase} → Ends (passed core phase)
  ps = record { told = λ f. absurd f }

  us : {why : Reason} → Ends (useless core why)
  us = record { told = λ f. idle_over core.position }

  br : {why : Reason} → Ends (broken core why)
  br = record { told = λ f. idle_broken core.position }

  head1_ends : (h : Result Head1 LabelFault) → Ends (at_head1 core h)
  head1_ends (Err fault) = us
  head1_ends (Ok h) =
      choose (not (bytes_eq h.set_id core.set_id)) _ _ us
      (choose (nat_lt h.sequence core.file) _ _ ps
      (choose (nat_lt core.file h.sequence) _ _ us
      (choose (nat_lt h.sect (sect_of core.position)) _ _ us
      (choose (nat_lt (sect_of core.position) h.sect) _ _ us
      (choose (other_file_id core.known h.file_id) _ _ us ps)))))

  first_ends : (kind : Option Kind) → Ends (first_label core kind)
  first_ends (Some AVol1) = ps
  first_ends _ = us

  labels_end : (bytes : List ℕ) (kind : Option Kind) → Ends (first_labels core bytes kind)
  labels_end bytes (Some AHdr1) = head1_ends (head1_at bytes)
  labels_end bytes _ = us

  head2_ends : (heading : Heading) (g : Result Head2 LabelFault) → Ends (at_head2 core heading g)
  head2_ends heading (Err fault) = us
  head2_ends heading (Ok g) = choose (other_shape core.known (form_at heading g)) _ _ us ps

  second_ends : (heading : Heading) (wanted : Bool) (bytes : List ℕ) (kind : Option Kind)
      → Ends (second_label core heading wanted bytes kind)
  second_ends heading false bytes (Some AHdr2) = ps
  second_ends heading true bytes (Some AHdr2) = head2_ends heading (head2_at bytes)
  second_ends heading wanted bytes _ = us

  judged_ends : (heading : Heading) (form : FileForm) (bytes : List ℕ) (r : Result Bool BlockFault)
      → Ends (at_judged core heading form bytes r)
  judged_ends heading form bytes (Err fault) = us
  judged_ends heading form bytes (Ok end) =
      choose (other_front form (part_of core.position) core.begun bytes) _ _ us
      (record { told = λ f. absurd f })

  data_ends : (heading : Heading) (form : FileForm) (seen : ℕ) (bytes : List ℕ)
      → Ends (at_data core heading form seen bytes)
  data_ends heading form seen bytes =
      choose (nat_lt seen (block_of core.position)) _ _ ps
      (choose (not (nat_lt (block_of core.position) most_blocks)) _ _ us
      (judged_ends heading form bytes (judged form.format form.rec_len form.offset
      (begun_before form (part_of core.position) core.begun bytes) bytes)))

  passed_ends : (heading : Heading) (t : Result Trail1 LabelFault)
      → Ends (at_passed_trailer core heading t)
  passed_ends heading (Err fault) = us
  passed_ends heading (Ok t) = choose (other_numbers heading t) _ _ us ps

  end_ends : (form : FileForm) (eof : Bool) → Ends (at_end core form eof)
  end_ends form true = choose core.begun _ _ us (record { told = λ f. tt })
  end_ends form false = choose (not (nat_lt (sect_of core.position) 9999)) _ _ us
      (record { told = λ f. idle_over (next_section core.position) })

  wanted_ends : (heading : Heading) (form : FileForm) (t : Result Trail1 LabelFault)
      → Ends (at_wanted_trailer core heading form t)
  wanted_ends heading form (Err fault) = us
  wanted_ends heading form (Ok t) = choose (other_numbers heading t) _ _ us
      (choose (not (t.blocks == label_count (block_of core.position))) _ _ br (end_ends form t.eof))

  block_ends : (phase : Phase) (bytes : List ℕ) → Ends (at_block core phase bytes)
  block_ends Over bytes = us
  block_ends Broken bytes = br
  block_ends Volume bytes = first_ends (kind_at bytes)
  block_ends VolumeLabels bytes = choose (is_volume_label bytes) _ _ ps
      (labels_end bytes (kind_at bytes))
  block_ends (Header2 heading wanted) bytes = second_ends heading wanted bytes (kind_at bytes)
  block_ends (DataWanted heading form seen) bytes = data_ends heading form seen bytes
  block_ends (TrailerPassed heading) bytes = passed_ends heading (trail1_at bytes)
  block_ends (TrailerWanted heading form) bytes = wanted_ends heading form (trail1_at bytes)
  block_ends NextFile bytes = head1_ends (head1_at bytes)
  block_ends _ bytes = ps

  mark_ends : (phase : Phase) → Ends (at_mark core phase)
  mark_ends Broken = br
  mark_ends (Headers heading wanted) = ps
  mark_ends (DataPassed heading) = ps
  mark_ends (DataWanted heading form seen) = choose (nat_lt seen (block_of core.position)) _ _ us ps
  mark_ends Trailers = ps
  mark_ends _ = us

  bad_ends : (phase : Phase) → Ends (at_bad core phase)
  bad_ends Broken = br
  bad_ends (DataPassed heading) = ps
  bad_ends (DataWanted heading form seen) = choose (nat_lt seen (block_of core.position)) _ _ ps us
  bad_ends _ = us

  item_ends : (phase : Phase) (x : TapeItem) → Ends (at_item core phase x)
  item_ends phase (block bytes) = block_ends phase bytes
  item_ends phase mark = mark_ends phase
  item_ends phase bad = bad_ends phase

by_position : (core : State) (x : TapeItem) (p : Position) → core.position ≡ p
    → Ends (unless_complete core p (at_item core core.phase x))
by_position core x Finished e =
    record { told = λ f. subst (λ (p : Position). IsIdle p core.phase) (sym e) tt }
by_position core x (Awaits sect b part) e = item_ends core core.phase x

table_ends : (core : State) (x : TapeItem) → Ends (Table.step_of core (Some x))
table_ends core x = by_position core x core.position refl

-- ---- the wider reading

then_ends : (out : Outcome) (x : TapeItem) → Ends out → Ends (Wide.and_then out (Some x))
then_ends (Passed, new) x t = table_ends new x
then_ends (_, new) x t = t

without_ends : (core : State) (heading : Heading) (wanted : Bool)
    → Ends (Wide.without_second core heading wanted)
without_ends core heading true = head2_ends core heading (Ok absent_head2)
without_ends core heading false = ps core

wide_second_ends : (core : State) (heading : Heading) (wanted : Bool) (bytes : List ℕ)
    (kind : Option Kind) → Ends (Wide.second_label core heading wanted bytes kind)
wide_second_ends core heading false bytes (Some AHdr2) = ps core
wide_second_ends core heading true bytes (Some AHdr2) =
    head2_ends core heading (wide_head2_at bytes)
wide_second_ends core heading true bytes _ = choose (is_further_header bytes) _ _
    (without_ends core heading true) (us core)
wide_second_ends core heading false bytes _ = choose (is_further_header bytes) _ _
    (without_ends core heading false) (us core)

phase_ends : (core : State) (phase : Phase) (p : Position) (x : TapeItem)
    → Ends (Wide.by_phase core phase p (Some x))
phase_ends core (Header2 heading wanted) (Awaits sect b part) (block bytes) =
    wide_second_ends core heading wanted bytes (kind_at bytes)
phase_ends core (Header2 heading wanted) (Awaits sect b part) mark =
    then_ends _ mark (without_ends core heading wanted)
phase_ends core (Header2 heading wanted) (Awaits sect b part) bad = table_ends core bad
phase_ends core (Header2 heading wanted) Finished x = table_ends core x
phase_ends core _ p x = table_ends core x

-- after a final answer no reading is under way
pub step_ends : (wide : Bool) (core : State) (x : TapeItem) → Ends (step_by wide core (Some x))
step_ends false core x = table_ends core x
step_ends true core x = phase_ends core core.phase core.position (Wide.content_item core x)

-- ---- if no reading is under way

-- the table does not deliver the item, and only the phase changes
record Rests (core : State) (x : TapeItem) : Type 0 where
  rest : rest_of (Table.step_of core (Some x)).1 ≡ rest_of core
  idle : IsIdle (Table.step_of core (Some x)).1.position (Table.step_of core (Some x)).1.phase
  silent : (Table.step_of core (Some x)).0 ≢ Deliver

idle_at : (set_id : List ℕ) (file : ℕ) (p : Position) (begun : Bool) (known : Option FileForm)
    (phase : Phase) (x : TapeItem) → IsIdle p phase
    → Rests (record {
      set_id = set_id;
      file = file;
      position = p;
      begun = begun;
      known = known;
      phase = phase;
    }) x
idle_at set_id file Finished begun known phase x h =
    record { rest = refl; idle = tt; silent = λ e. cc }
idle_at set_id file (Awaits sect b part) begun known Over (block bytes) h =
    record { rest = refl; idle = tt; silent = λ e. cc }
idle_at set_id file (Awaits sect b part) begun known Over x h =
    record { rest = refl; idle = tt; silent = λ e. cc }
idle_at set_id file (Awaits sect b part) begun known Broken (block bytes) h =
    record { rest = refl; idle = tt; silent = λ e. cc }
idle_at set_id file (Awaits sect b part) begun known Broken x h =
    record { rest = refl; idle = tt; silent = λ e. cc }
idle_at set_id file (Awaits sect b part) begun known _ x h = absurd h

over_same : (x : TapeItem) → Wide.item_by Over x ≡ x
over_same (block bytes) = refl
over_same mark = refl
over_same bad = refl

broken_same : (x : TapeItem) → Wide.item_by Broken x ≡ x
broken_same (block bytes) = refl
broken_same mark = refl
broken_same bad = refl

complete_same : (core : State) (phase : Phase) (p : Position) (x y : TapeItem)
    → core.position ≡ Finished → p ≡ Finished
    → Wide.by_phase core phase p (Some x) ≡ Table.step_of core (Some y)
complete_same core (Header2 heading wanted) Finished x y e f = rw e refl
complete_same core (Header2 heading wanted) (Awaits sect b part) x y e f = absurd (cc)
complete_same core _ p x y e f = rw e refl

idle_by : (core : State) (phase : Phase) (p : Position) (x : TapeItem) → core.position ≡ p
    → IsIdle p phase
    → Wide.by_phase core phase p (Some (Wide.item_by phase x)) ≡ Table.step_of core (Some x)
idle_by core phase Finished x e h =
    complete_same core phase Finished (Wide.item_by phase x) x e refl
idle_by core Over (Awaits sect b part) x e h =
    ap (λ y. Table.step_of core (Some y)) (over_same x)
idle_by core Broken (Awaits sect b part) x e h =
    ap (λ y. Table.step_of core (Some y)) (broken_same x)
idle_by core _ (Awaits sect b part) x e h = absurd h

-- then the two readings have the same step
pub idle_same : (wide : Bool) (core : State) (x : TapeItem) → IsIdle core.position core.phase
    → step_by wide core (Some x) ≡ Table.step_of core (Some x)
idle_same false core x h = refl
idle_same true core x h = idle_by core core.phase core.position x refl h

-- an item that is not delivered has no parts
pub by_none : (a : Answer) (x : TapeItem) (p : Position) (k : Option FileForm) → a ≢ Deliver
    → parts_by a x p k ≡ []
by_none Deliver x p k ne = absurd (ne refl)
by_none Passed x p k ne = refl
by_none _ x p k ne = refl

pub record Stays (wide : Bool) (core : State) (x : TapeItem) : Type 0 where
  pub rest : rest_of (step_by wide core (Some x)).1 ≡ rest_of core
  pub idle : IsIdle (step_by wide core (Some x)).1.position (step_by wide core (Some x)).1.phase
  pub none : parts_at wide core x ≡ []

idle_step : (wide : Bool) (core : State) (x : TapeItem) → IsIdle core.position core.phase
    → Stays wide core x
idle_step wide core x h =
    let same = idle_same wide core x h in
    let at = idle_at core.set_id core.file _ core.begun core.known _ x h in
    record {
      rest = ap (λ (z : Outcome). rest_of z.1) same ∙ at.rest;
      idle = subst (λ (z : Outcome). IsIdle z.1.position z.1.phase) (sym same) at.idle;
      none = by_none _ (read_as wide core x) core.position
          (step_by wide core (Some x)).1.known
          (λ d. at.silent (sym (ap (λ (z : Outcome). z.0) same) ∙ d));
    }

-- no items change the preserved state, and none delivers parts
pub idle_items : (wide : Bool) (xs : List TapeItem) (core : State)
    → IsIdle core.position core.phase
    → (rest_of (behind_items wide core xs) ≡ rest_of core) × (delivered_parts wide core xs ≡ [])
idle_items wide [] core h = (refl, refl)
idle_items wide (x ∷ xs) core h =
    let s = idle_step wide core x h in
    let (rest, none) = idle_items wide xs (step_by wide core (Some x)).1 s.idle in (
      rest ∙ s.rest,
      ap (λ (l : List Portion). l ++ delivered_parts wide (step_by wide core (Some x)).1 xs) s.none
          ∙ none,
    )

-- the same after a final answer
pub behind_final : (wide : Bool) (mid new : State) (x : TapeItem) (answer : Answer)
    (more : List TapeItem)
    → (answer, new) ≡ step_by wide mid (Some x) → IsFinal answer
    → (rest_of (behind_items wide new more) ≡ rest_of new) × (delivered_parts wide new more ≡ [])
behind_final wide mid new x answer more step final =
    idle_items wide more new ((subst Ends (sym step) (step_ends wide mid x)).told final)
