-- The answers that follow delivered blocks, and those that break a core.
use Rattle.std.proofs.Common.{◌≡◌, ◌≢◌, inl, inr, ℕ, Bool, true, false, List, Option, Some, None}
use Rattle.std.proofs.Common.{Result, Ok, Err, refl, sym, subst, if◌then◌else◌, not, nat_lt}
use Rattle.std.proofs.Common.{◌==◌, ◌∙◌}
use Rattle.std.specs.{Prelude.⊤, Str.bytes_eq}
use Rattle.tape_image.specs.Tape.{TapeItem, block, bad, mark}
use Rattle.tape_label.specs.declared.values.Kind.TheVariants.{Vol1 as AVol1, Hdr1 as AHdr1}
use Rattle.tape_label.specs.declared.values.Kind.TheVariants.{Hdr2 as AHdr2}
use Rattle.tape_label.specs.{VolumeLabels.is_volume_label, Kinds.kind_at, declared.values.Kind.Kind}
use Rattle.tape_label.specs.declared.values.{Head1.Head1, Head2.Head2, Trail1.Trail1}
use Rattle.tape_label.specs.declared.label.LabelFault.{LabelFault}
use Rattle.tape_label.specs.Reading.{head1_at, head2_at, trail1_at, wide_head2_at}
use Rattle.tape_label.specs.WideHead2.{absent_head2, is_further_header}
use Rattle.tape_blocks.specs.{Judged.judged, declared.check.BlockFault.BlockFault}
use Rattle.tape_set.specs.declared.position.Position.{Position}
use Rattle.tape_set.specs.declared.position.Position.TheVariants.{Awaits, Finished}
use Rattle.tape_set.specs.Position.{sect_of, block_of, part_of}
use Rattle.tape_set.specs.Lawful.{FileForm, label_count, most_blocks}
use Rattle.tape_core.specs.declared.event.{Answer.Answer, Reason.Reason, Heading.Heading}
use Rattle.tape_core.specs.declared.event.{Phase.Phase, Answer.TheVariants.Deliver}
use Rattle.tape_core.specs.declared.event.Answer.TheVariants.{Passed, Useless}
use Rattle.tape_core.specs.declared.event.Phase.TheVariants.{Over, Broken, Volume, VolumeLabels}
use Rattle.tape_core.specs.declared.event.Phase.TheVariants.{Header2, Headers, DataPassed}
use Rattle.tape_core.specs.declared.event.Phase.TheVariants.{DataWanted, TrailerPassed}
use Rattle.tape_core.specs.declared.event.Phase.TheVariants.{TrailerWanted, Trailers, NextFile}
use Rattle.tape_core.specs.Table.{Outcome, passed, useless, broken, first_label, at_head1, at_block}
use Rattle.tape_core.specs.Table.{first_labels, at_head2, second_label, at_judged, at_data}
use Rattle.tape_core.specs.Table.{at_passed_trailer, at_end, at_wanted_trailer, at_mark, at_bad}
use Rattle.tape_core.specs.Table.{at_item, unless_complete, other_numbers}
use Rattle.tape_core.specs.{Labels.other_file_id, Labels.other_shape, Labels.form_at, State.State}
use Rattle.tape_core.specs.{Parts.begun_before, Parts.other_front, State.is_broken}
use Rattle.tape_core.specs.Table as Table
use Rattle.tape_core.specs.Wide as Wide
use Rattle.tape_core.specs.Wide.{step_by}
use Rattle.tape_run.specs.Reeling.{counts_differ, is_no_label}
use Rattle.tape_run.specs.Reels.{GoesOn}

-- the data of the section needed, or its trailer, come next
abbrev pub IsInSection : Phase → Type 0
IsInSection (DataWanted heading form seen) = ⊤
IsInSection (TrailerWanted heading form) = ⊤
IsInSection _ = ⊥

-- The data of a section were delivered only if its data or its trailer come next; if a count
-- differs, the core is broken, and if the reading goes on, it is not.
pub record Tells (out : Outcome) : Type 0 where
  pub delivers : out.0 ≡ Deliver → IsInSection out.1.phase
  pub counts : counts_differ out.0 ≡ true → is_broken out.1.phase ≡ true
  pub sound : GoesOn out.0 → is_broken out.1.phase ≡ false

abbrev no_goes : {a : Answer} → a ≢ Passed → a ≢ Deliver → GoesOn a → ⊥
no_goes p d (inl e) = p e
no_goes p d (inr e) = d e

choose : (c : Bool) (x y : Outcome) → Tells x → Tells y → Tells (if c then x else y)
choose true x y f g = f
choose false x y f g = g

module _ (core : State) where
  ps : {phase : Phase} → is_broken phase ≡ false → Tells (passed core phase)
  ps sound =
      record { delivers = λ e. absurd (cc e); counts = λ e. absurd (cc e); sound = λ g. sound }

  us : (why : Reason) → (counts_differ (Useless why) ≡ false) → Tells (useless core why)
  us why calm = record {
    delivers = λ e. absurd (cc e);
    counts = λ e. absurd (let x = sym calm ∙ e in cc x);
    sound = λ g. refl;
  }

  br : {why : Reason} → Tells (broken core why)
  br = record {
    delivers = λ e. absurd (cc e);
    counts = λ e. refl;
    sound = λ g. absurd (no_goes (λ e. cc e) (λ e. cc e) g);
  }

  head1_tells : (h : Result Head1 LabelFault) → Tells (at_head1 core h)
  head1_tells (Err fault) = us _ refl
  head1_tells (Ok h) =
      choose (not (bytes_eq h.set_id core.set_id)) _ _ (us _ refl)
      (choose (nat_lt h.sequence core.file) _ _ (ps refl)
      (choose (nat_lt core.file h.sequence) _ _ (us _ refl)
      (choose (nat_lt h.sect (sect_of core.position)) _ _ (us _ refl)
      (choose (nat_lt (sect_of core.position) h.sect) _ _ (us _ refl)
      (choose (other_file_id core.known h.file_id) _ _ (us _ refl) (ps refl))))))

  first_tells : (kind : Option Kind) → Tells (first_label core kind)
  first_tells (Some AVol1) = ps refl
  first_tells _ = us _ refl

  labels_tell : (bytes : List ℕ) (kind : Option Kind) → Tells (first_labels core bytes kind)
  labels_tell bytes (Some AHdr1) = head1_tells (head1_at bytes)
  labels_tell bytes _ = us _ refl

  head2_tells : (heading : Heading) (g : Result Head2 LabelFault) → Tells (at_head2 core heading g)
  head2_tells heading (Err fault) = us _ refl
  head2_tells heading (Ok g) = choose (other_shape core.known (form_at heading g)) _ _
      (us _ refl) (ps refl)

  second_tells : (heading : Heading) (wanted : Bool) (bytes : List ℕ) (kind : Option Kind)
      → Tells (second_label core heading wanted bytes kind)
  second_tells heading false bytes (Some AHdr2) = ps refl
  second_tells heading true bytes (Some AHdr2) = head2_tells heading (head2_at bytes)
  second_tells heading wanted bytes _ = us _ refl

  judged_tells : (heading : Heading) (form : FileForm) (bytes : List ℕ) (r : Result Bool BlockFault)
      → Tells (at_judged core heading form bytes r)
  judged_tells heading form bytes (Err fault) = us _ refl
  judged_tells heading form bytes (Ok end) =
      choose (other_front form (part_of core.position) core.begun bytes) _ _ (us _ refl)
      (record { delivers = λ e. tt; counts = λ e. absurd (cc e); sound = λ g. refl })

  data_tells : (heading : Heading) (form : FileForm) (seen : ℕ) (bytes : List ℕ)
      → Tells (at_data core heading form seen bytes)
  data_tells heading form seen bytes =
      choose (nat_lt seen (block_of core.position)) _ _ (ps refl)
      (choose (not (nat_lt (block_of core.position) most_blocks)) _ _ (us _ refl)
      (judged_tells heading form bytes (judged form.format form.rec_len form.offset
      (begun_before form (part_of core.position) core.begun bytes) bytes)))

  passed_tells : (heading : Heading) (t : Result Trail1 LabelFault)
      → Tells (at_passed_trailer core heading t)
  passed_tells heading (Err fault) = us _ refl
  passed_tells heading (Ok t) = choose (other_numbers heading t) _ _ (us _ refl) (ps refl)

  end_tells : (form : FileForm) (eof : Bool) → Tells (at_end core form eof)
  end_tells form true = choose core.begun _ _ (us _ refl)
      (record {
        delivers = λ e. absurd (cc e);
        counts = λ e. absurd (cc e);
        sound = λ g. refl;
      })
  end_tells form false = choose (not (nat_lt (sect_of core.position) 9999)) _ _ (us _ refl)
      (record {
        delivers = λ e. absurd (cc e);
        counts = λ e. absurd (cc e);
        sound = λ g. refl;
      })

  wanted_tells : (heading : Heading) (form : FileForm) (t : Result Trail1 LabelFault)
      → Tells (at_wanted_trailer core heading form t)
  wanted_tells heading form (Err fault) = us _ refl
  wanted_tells heading form (Ok t) = choose (other_numbers heading t) _ _ (us _ refl)
      (choose (not (t.blocks == label_count (block_of core.position))) _ _ br
      (end_tells form t.eof))

  block_tells : (phase : Phase) (bytes : List ℕ) → Tells (at_block core phase bytes)
  block_tells Over bytes = us _ refl
  block_tells Broken bytes = br
  block_tells Volume bytes = first_tells (kind_at bytes)
  block_tells VolumeLabels bytes = choose (is_volume_label bytes) _ _ (ps refl)
      (labels_tell bytes (kind_at bytes))
  block_tells (Header2 heading wanted) bytes = second_tells heading wanted bytes (kind_at bytes)
  block_tells (DataWanted heading form seen) bytes = data_tells heading form seen bytes
  block_tells (TrailerPassed heading) bytes = passed_tells heading (trail1_at bytes)
  block_tells (TrailerWanted heading form) bytes = wanted_tells heading form (trail1_at bytes)
  block_tells NextFile bytes = head1_tells (head1_at bytes)
  block_tells _ bytes = ps refl

  mark_tells : (phase : Phase) → Tells (at_mark core phase)
  mark_tells Broken = br
  mark_tells (Headers heading None) = ps refl
  mark_tells (Headers heading (Some form)) = ps refl
  mark_tells (DataPassed heading) = ps refl
  mark_tells (DataWanted heading form seen) = choose (nat_lt seen (block_of core.position)) _ _
      (us _ refl) (ps refl)
  mark_tells Trailers = ps refl
  mark_tells _ = us _ refl

  bad_tells : (phase : Phase) → Tells (at_bad core phase)
  bad_tells Broken = br
  bad_tells (DataPassed heading) = ps refl
  bad_tells (DataWanted heading form seen) = choose (nat_lt seen (block_of core.position)) _ _ (ps refl)
      (us _ refl)
  bad_tells _ = us _ refl

  item_tells : (phase : Phase) (x : TapeItem) → Tells (at_item core phase x)
  item_tells phase (block bytes) = block_tells phase bytes
  item_tells phase mark = mark_tells phase
  item_tells phase bad = bad_tells phase

  unless_tells : (p : Position) (out : Outcome) → Tells out → Tells (unless_complete core p out)
  unless_tells Finished out t = record {
    delivers = λ e. absurd (cc e);
    counts = λ e. absurd (cc e);
    sound = λ g. absurd (no_goes (λ e. cc e) (λ e. cc e) g);
  }
  unless_tells (Awaits sect b part) out t = t

table_tells : (core : State) (x : TapeItem) → Tells (Table.step_of core (Some x))
table_tells core x = unless_tells core core.position _ (item_tells core core.phase x)

-- ---- the wider reading

then_tells : (out : Outcome) (x : TapeItem) → Tells out → Tells (Wide.and_then out (Some x))
then_tells (Passed, new) x t = table_tells new x
then_tells (_, new) x t = t

without_tells : (core : State) (heading : Heading) (wanted : Bool)
    → Tells (Wide.without_second core heading wanted)
without_tells core heading true = head2_tells core heading (Ok absent_head2)
without_tells core heading false = ps core refl

wide_second_tells : (core : State) (heading : Heading) (wanted : Bool) (bytes : List ℕ)
    (kind : Option Kind) → Tells (Wide.second_label core heading wanted bytes kind)
wide_second_tells core heading false bytes (Some AHdr2) = ps core refl
wide_second_tells core heading true bytes (Some AHdr2) =
    head2_tells core heading (wide_head2_at bytes)
wide_second_tells core heading true bytes _ = choose (is_further_header bytes) _ _
    (without_tells core heading true) (us core _ refl)
wide_second_tells core heading false bytes _ = choose (is_further_header bytes) _ _
    (without_tells core heading false) (us core _ refl)

phase_tells : (core : State) (phase : Phase) (p : Position) (x : TapeItem)
    → Tells (Wide.by_phase core phase p (Some x))
phase_tells core (Header2 heading wanted) (Awaits sect b part) (block bytes) =
    wide_second_tells core heading wanted bytes (kind_at bytes)
phase_tells core (Header2 heading wanted) (Awaits sect b part) mark =
    then_tells _ mark (without_tells core heading wanted)
phase_tells core (Header2 heading wanted) (Awaits sect b part) bad = table_tells core bad
phase_tells core (Header2 heading wanted) Finished x = table_tells core x
phase_tells core _ p x = table_tells core x

pub step_tells : (wide : Bool) (core : State) (x : TapeItem) → Tells (step_by wide core (Some x))
step_tells false core x = table_tells core x
step_tells true core x = phase_tells core core.phase core.position (Wide.content_item core x)

-- ---- within a section

-- After delivered data the reading goes on within the section, and only in place of the trailer
-- label is an item no label.
pub record Within (core : State) (phase : Phase) (out : Outcome) : Type 0 where
  pub goes : GoesOn out.0 → IsInSection out.1.phase
  pub label : is_no_label out.0 ≡ true
      → (heading : Heading) × (form : FileForm) × (phase ≡ TrailerWanted heading form)

either : (core : State) (phase : Phase) (c : Bool) (x y : Outcome) → Within core phase x
    → Within core phase y → Within core phase (if c then x else y)
either core phase true x y f g = f
either core phase false x y f g = g

on : (core : State) (phase : Phase) (heading : Heading) (form : FileForm) (seen : ℕ)
    → Within core phase (passed core (DataWanted heading form seen))
on core phase heading form seen = record { goes = λ e. tt; label = λ e. absurd (cc e) }

off : (core : State) (phase : Phase) (why : Reason) → (is_no_label (Useless why) ≡ false)
    → Within core phase (useless core why)
off core phase why calm = record {
  goes = λ e. absurd (elim e [ inl a ↦ (cc a) | inr b ↦ (cc b) ]);
  label = λ e. absurd (let x = sym calm ∙ e in cc x);
}

judged_within : (core : State) (phase : Phase) (heading : Heading) (form : FileForm)
    (bytes : List ℕ) (r : Result Bool BlockFault)
    → Within core phase (at_judged core heading form bytes r)
judged_within core phase heading form bytes (Err fault) = off core phase _ refl
judged_within core phase heading form bytes (Ok end) =
    either core phase (other_front form (part_of core.position) core.begun bytes) _ _
    (off core phase _ refl) (record { goes = λ e. tt; label = λ e. absurd (cc e) })

data_within : (core : State) (heading : Heading) (form : FileForm) (seen : ℕ) (x : TapeItem)
    → Within core (DataWanted heading form seen)
    (at_item core (DataWanted heading form seen) x)
data_within core heading form seen (block bytes) =
    let phase = DataWanted heading form seen in
    either core phase (nat_lt seen (block_of core.position)) _ _ (on core phase heading form _)
    (either core phase (not (nat_lt (block_of core.position) most_blocks)) _ _
    (off core phase _ refl) (judged_within core phase heading form bytes (judged form.format
    form.rec_len form.offset (begun_before form (part_of core.position) core.begun bytes) bytes)))
data_within core heading form seen mark =
    let phase = DataWanted heading form seen in
    either core phase (nat_lt seen (block_of core.position)) _ _ (off core phase _ refl)
    (record { goes = λ e. tt; label = λ e. absurd (cc e) })
data_within core heading form seen bad =
    let phase = DataWanted heading form seen in
    either core phase (nat_lt seen (block_of core.position)) _ _ (on core phase heading form _)
    (off core phase _ refl)

-- no item in place of the trailer label lets the reading go on
pub ends_there : (core : State) (heading : Heading) (form : FileForm) (x : TapeItem)
    → GoesOn (at_item core (TrailerWanted heading form) x).0 → ⊥
ends_there core heading form (block bytes) g = at_trailer (trail1_at bytes) g
  where
    no : {a : Answer} → a ≢ Passed → a ≢ Deliver → GoesOn a → ⊥
    no p d (inl e) = p e
    no p d (inr e) = d e

    pick : (c : Bool) (x y : Outcome) → (GoesOn x.0 → ⊥) → (GoesOn y.0 → ⊥)
        → GoesOn (if c then x else y).0 → ⊥
    pick true x y f g = f
    pick false x y f g = g

    at_close : (eof : Bool) → GoesOn (at_end core form eof).0 → ⊥
    at_close true = pick core.begun _ _ (no (λ e. cc e) (λ e. cc e)) (no (λ e. cc e) (λ e. cc e))
    at_close false = pick (not (nat_lt (sect_of core.position) 9999)) _ _
        (no (λ e. cc e) (λ e. cc e)) (no (λ e. cc e) (λ e. cc e))

    at_trailer : (t : Result Trail1 LabelFault) → GoesOn (at_wanted_trailer core heading form t).0
        → ⊥
    at_trailer (Err fault) = no (λ e. cc e) (λ e. cc e)
    at_trailer (Ok t) = pick (other_numbers heading t) _ _ (no (λ e. cc e) (λ e. cc e))
        (pick (not (t.blocks == label_count (block_of core.position))) _ _
        (no (λ e. cc e) (λ e. cc e)) (at_close t.eof))
ends_there core heading form mark (inl e) = cc e
ends_there core heading form mark (inr e) = cc e
ends_there core heading form bad (inl e) = cc e
ends_there core heading form bad (inr e) = cc e

phase_within : (core : State) (phase : Phase) (x : TapeItem) → IsInSection phase
    → Within core phase (at_item core phase x)
phase_within core (DataWanted heading form seen) x h = data_within core heading form seen x
phase_within core (TrailerWanted heading form) x h = record {
  goes = λ e. absurd (ends_there core heading form x e);
  label = λ e. (heading, form, refl);
}
phase_within core _ x h = absurd h

unless_within : (core : State) (phase : Phase) (p : Position) (out : Outcome) → p ≢ Finished
    → Within core phase out → Within core phase (unless_complete core p out)
unless_within core phase Finished out waits w = absurd (waits refl)
unless_within core phase (Awaits sect b part) out waits w = w

pub by_within : (core : State) (phase : Phase) (p : Position) (x : TapeItem) → core.phase ≡ phase
    → IsInSection phase → Wide.by_phase core phase p (Some x) ≡ Table.step_of core (Some x)
by_within core (DataWanted heading form seen) p x e h = refl
by_within core (TrailerWanted heading form) p x e h = refl
by_within core _ p x e h = absurd h

table_within : (core : State) (x : TapeItem) → core.position ≢ Finished → IsInSection core.phase
    → Within core core.phase (Table.step_of core (Some x))
table_within core x waits h = unless_within core core.phase core.position _ waits
    (phase_within core core.phase x h)

pub step_within : (wide : Bool) (core : State) (x : TapeItem) → core.position ≢ Finished
    → IsInSection core.phase → Within core core.phase (step_by wide core (Some x))
step_within false core x waits h = table_within core x waits h
step_within true core x waits h =
    let y = Wide.content_item core x in
    subst (Within core core.phase) (sym (by_within core core.phase core.position y refl h))
    (table_within core y waits h)
