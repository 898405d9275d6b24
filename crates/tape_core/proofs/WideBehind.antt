-- In either reading a reader of a later file skips the items that a reader of an earlier file
-- reads.
use Rattle.std.proofs.Common.{◌≡◌, ℕ, List, Bool, true, false, Option, Some, None, Ok, refl, sym}
use Rattle.std.proofs.Common.{subst, if◌then◌else◌}
use Rattle.tape_image.specs.Tape.{TapeItem, block as block', bad, mark}
use Rattle.tape_label.specs.declared.values.Kind.{Kind}
use Rattle.tape_label.specs.declared.values.Kind.TheVariants as kinds
use Rattle.tape_label.specs.{Kinds.kind_at, Reading.wide_head2_at, WideHead2.absent_head2}
use Rattle.tape_label.specs.{WideHead2.is_further_header, Labels.no_kind}
use Rattle.tape_set.specs.Lawful.{FileForm}
use Rattle.tape_set.specs.declared.position.Position.{Position}
use Rattle.tape_set.specs.declared.position.Position.TheVariants.{Awaits, Finished}
use Rattle.tape_core.specs.declared.event.{Heading.Heading, Phase.Phase}
use Rattle.tape_core.specs.declared.event.Phase.TheVariants.{Header2, Headers, DataWanted}
use Rattle.tape_core.specs.declared.event.Phase.TheVariants.{DataPassed}
use Rattle.tape_core.specs.declared.event.Reason.TheVariants.{BadLabel, SectionDiffers}
use Rattle.tape_core.specs.{State.State, Known.is_finished}
use Rattle.tape_core.specs.{Labels.form_at, Labels.other_shape}
use Rattle.tape_core.specs.Table.{Outcome, in_phase, passed, useless, unless_complete}
use Rattle.tape_core.specs.Behind.{passed_over, expected_over, PassesTo, AreInOrder}
use Rattle.tape_core.specs.Table as Table
use Rattle.tape_core.specs.Wide as Wide
use Rattle.tape_core.proofs.Behind.{head2_law, step_law}

without_law : (first later : State) (heading : Heading) (wanted : Bool)
    → PassesTo (expected_over (Wide.without_second first heading wanted)) later
    (passed later (Headers heading None))
without_law first later heading true = head2_law first later heading (Ok absent_head2)
without_law first later heading false = refl

other_law : (first later : State) (heading : Heading) (wanted : Bool) (bytes : List ℕ) (t : Bool)
    → PassesTo (expected_over (if t then Wide.without_second first heading wanted
    else useless first (BadLabel (no_kind bytes)))) later
    (if t then passed later (Headers heading None)
    else useless later (BadLabel (no_kind bytes)))
other_law first later heading wanted bytes true = without_law first later heading wanted
other_law first later heading wanted bytes false = tt

label_law : (first later : State) (heading : Heading) (wanted : Bool) (bytes : List ℕ)
    (k : Option Kind)
    → PassesTo (expected_over (Wide.second_label first heading wanted bytes k)) later
    (Wide.second_label later heading false bytes k)
label_law first later heading false bytes (Some kinds.Hdr2) = refl
label_law first later heading true bytes (Some kinds.Hdr2) =
    head2_law first later heading (wide_head2_at bytes)
label_law first later heading true bytes _ =
    other_law first later heading true bytes (is_further_header bytes)
label_law first later heading false bytes _ =
    other_law first later heading false bytes (is_further_header bytes)

-- ---- a mark in the place of HDR2

in_its_place : (o : Option Phase) (later : State) (phase : Phase) (out : Outcome)
    → PassesTo o (in_phase later phase) out → PassesTo o later out
in_its_place None later phase out h = tt
in_its_place (Some p) later phase out h = h

headers_end : (first later : State) (heading : Heading) (form : Option FileForm)
    → AreInOrder first later
    → PassesTo (expected_over (Table.step_of (in_phase first (Headers heading form)) (Some mark)))
    later (Table.step_of (in_phase later (Headers heading None)) (Some mark))
headers_end first later heading form o =
    in_its_place (expected_over (Table.step_of (in_phase first (Headers heading form))
    (Some mark))) later (Headers heading None) _
    (step_law (in_phase first (Headers heading form)) (in_phase later (Headers heading None)) mark
    (record {
      same_set = o.same_set;
      earlier = o.earlier;
      first_waits = o.first_waits;
      later_waits = o.later_waits;
    }) refl)

absent_by : (first later : State) (heading : Heading) (form : FileForm) (t : Bool)
    → AreInOrder first later
    → PassesTo (expected_over (Wide.and_then (if t then useless first SectionDiffers
    else passed first (Headers heading (Some form))) (Some mark))) later
    (Table.step_of (in_phase later (Headers heading None)) (Some mark))
absent_by first later heading form true o = tt
absent_by first later heading form false o = headers_end first later heading (Some form) o

mark_law : (first later : State) (heading : Heading) (wanted : Bool) → AreInOrder first later
    → PassesTo (expected_over (Wide.and_then (Wide.without_second first heading wanted)
    (Some mark))) later
    (Wide.and_then (Wide.without_second later heading false) (Some mark))
mark_law first later heading true o =
    absent_by first later heading (form_at heading absent_head2)
    (other_shape first.known (form_at heading absent_head2)) o
mark_law first later heading false o = headers_end first later heading None o

-- ---- a step

-- the block does not matter where data are skipped
any_block : (core : State) (heading : Heading) (b c : List ℕ) → core.phase ≡ DataPassed heading
    → Table.step_of core (Some (block' b)) ≡ Table.step_of core (Some (block' c))
any_block core heading b c e = rw e refl

second_law : (first later : State) (heading : Heading) (wanted : Bool) (x : TapeItem)
    (p q : Position) → is_finished p ≡ false → is_finished q ≡ false → AreInOrder first later
    → PassesTo (expected_over (Table.step_of first (Some bad))) later
    (Table.step_of later (Some bad))
    → PassesTo (expected_over (Wide.by_phase first (Header2 heading wanted) p
    (Some (Wide.item_by (Header2 heading wanted) x)))) later
    (Wide.by_phase later (Header2 heading false) q
    (Some (Wide.item_by (Header2 heading false) x)))
second_law first later heading wanted x Finished q a b o h = absurd (cc)
second_law first later heading wanted x (Awaits sect n part) Finished a b o h = absurd (cc)
second_law first later heading wanted (block' bytes) (Awaits s n m) (Awaits i j k) a b o h =
    label_law first later heading wanted bytes (kind_at bytes)
second_law first later heading wanted mark (Awaits s n m) (Awaits i j k) a b o h =
    mark_law first later heading wanted o
second_law first later heading wanted bad (Awaits s n m) (Awaits i j k) a b o h = h

phase_law : (first later : State) (p : Phase) (x : TapeItem) → AreInOrder first later
    → first.phase ≡ p → later.phase ≡ passed_over p
    → ((y : TapeItem) → PassesTo (expected_over (Table.step_of first (Some y))) later
    (Table.step_of later (Some y)))
    → PassesTo (expected_over (Wide.by_phase first p first.position (Some (Wide.item_by p x))))
    later (Wide.by_phase later (passed_over p) later.position
    (Some (Wide.item_by (passed_over p) x)))
phase_law first later (Header2 heading wanted) x o e f h =
    second_law first later heading wanted x first.position later.position o.first_waits
    o.later_waits o (h bad)
phase_law first later (DataWanted heading form seen) (block' bytes) o e f h =
    let content = Wide.content_by (DataWanted heading form seen) bytes in
    subst (λ z. PassesTo (expected_over (Table.step_of first (Some (block' content)))) later z)
    (any_block later heading content bytes f) (h (block' content))
phase_law first later (DataWanted heading form seen) mark o e f h = h mark
phase_law first later (DataWanted heading form seen) bad o e f h = h bad
phase_law first later _ (block' bytes) o e f h = h (block' bytes)
phase_law first later _ mark o e f h = h mark
phase_law first later _ bad o e f h = h bad

wide_law : (first later : State) (x : TapeItem) → AreInOrder first later
    → later.phase ≡ passed_over first.phase
    → PassesTo (expected_over (Wide.content_step first (Some x))) later
    (Wide.content_step later (Some x))
wide_law first later x o there =
    subst (λ (p : Phase). PassesTo (expected_over (Wide.content_step first (Some x))) later
    (Wide.by_phase later p later.position (Some (Wide.item_by p x)))) (sym there)
    (phase_law first later first.phase x o refl there
    (λ y. step_law first later y o there))

pub by_step_law : (wide : Bool) (first later : State) (x : TapeItem) → AreInOrder first later
    → later.phase ≡ passed_over first.phase
    → PassesTo (expected_over (Wide.step_by wide first (Some x))) later
    (Wide.step_by wide later (Some x))
by_step_law false first later x o there = step_law first later x o there
by_step_law true first later x o there = wide_law first later x o there
