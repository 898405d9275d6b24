-- A step of either reading: what it has of a step of the table.
use Rattle.std.proofs.Common.{◌≡◌, ◌≢◌, ℕ, List, Bool, true, false}
use Rattle.std.proofs.Common.{Option, Some, None, Ok, refl, ◌∙◌}
use Rattle.std.proofs.Common.{if◌then◌else◌, nat_lt}
use Rattle.tape_image.specs.Tape.{TapeItem, block as block', bad, mark}
use Rattle.tape_label.specs.declared.values.{Kind.Kind}
use Rattle.tape_label.specs.declared.values.Kind.TheVariants as kinds
use Rattle.tape_label.specs.{Kinds.kind_at, Reading.wide_head2_at, WideHead2.absent_head2}
use Rattle.tape_label.specs.WideHead2.{is_further_header}
use Rattle.tape_set.specs.declared.position.Position.{Position}
use Rattle.tape_set.specs.declared.position.Position.TheVariants.{Awaits, Finished}
use Rattle.tape_core.specs.declared.event.{Heading.Heading, Phase.Phase}
use Rattle.tape_core.specs.declared.event.Answer.TheVariants.{Passed, Deliver}
use Rattle.tape_core.specs.declared.event.Phase.TheVariants.{Header2, DataWanted}
use Rattle.tape_core.specs.declared.event.Phase.TheVariants.{TrailerWanted}
use Rattle.tape_core.specs.declared.event.Reason.TheVariants.{SectionDiffers, BadLabel}
use Rattle.tape_set.specs.Position.{block_of}
use Rattle.tape_label.specs.{Labels.no_kind}
use Rattle.tape_core.specs.{State.State, Table.Outcome, Table.passed}
use Rattle.tape_core.specs.Table as Table
use Rattle.tape_core.specs.Wide as Wide
use Rattle.tape_core.proofs.{Delivering.head2, OneFile.Same, OneFile.same_head2}
use Rattle.tape_core.proofs.OneFile.{same_step}
use Rattle.tape_core.proofs.WideLawful.{left_same}

-- ---- delivered blocks

unless_not : (core : State) (p : Position) (out : Outcome) → out.0 ≢ Deliver
    → (Table.unless_complete core p out).0 ≢ Deliver
unless_not core Finished out n = λ e. cc
unless_not core (Awaits sect b part) out n = n

mark_not : (core : State) (phase : Phase) → (Table.at_mark core phase).0 ≢ Deliver
mark_not core (DataWanted heading form seen) = either (nat_lt seen (block_of core.position))
  where
    either : (t : Bool) → (if t then Table.useless core SectionDiffers
        else passed core (TrailerWanted heading form)).0 ≢ Deliver
    either true = λ e. cc
    either false = λ e. cc
mark_not core _ = λ e. cc

no_mark : (core : State) → (Table.step_of core (Some mark)).0 ≢ Deliver
no_mark core = unless_not core core.position _ (mark_not core core.phase)

then_no_mark : (out : Outcome) → out.0 ≢ Deliver → (Wide.and_then out (Some mark)).0 ≢ Deliver
then_no_mark (Passed, core) n = no_mark core
then_no_mark (Deliver, core) n = n
then_no_mark (_, core) n = n

without_not : (core : State) (heading : Heading) (wanted : Bool)
    → (Wide.without_second core heading wanted).0 ≢ Deliver
without_not core heading true = head2 core heading (Ok absent_head2)
without_not core heading false = λ e. cc

other_not : (core : State) (heading : Heading) (wanted : Bool) (bytes : List ℕ) (t : Bool)
    → (if t then Wide.without_second core heading wanted
    else Table.useless core (BadLabel (no_kind bytes))).0 ≢ Deliver
other_not core heading wanted bytes true = without_not core heading wanted
other_not core heading wanted bytes false = λ e. cc

second_not : (core : State) (heading : Heading) (wanted : Bool) (bytes : List ℕ) (k : Option Kind)
    → (Wide.second_label core heading wanted bytes k).0 ≢ Deliver
second_not core heading false bytes (Some kinds.Hdr2) = λ e. cc
second_not core heading true bytes (Some kinds.Hdr2) = head2 core heading (wide_head2_at bytes)
second_not core heading true bytes _ = other_not core heading true bytes (is_further_header bytes)
second_not core heading false bytes _ =
    other_not core heading false bytes (is_further_header bytes)

delivers_by : (core : State) (phase : Phase) (p : Position) (arrived : Option TapeItem)
    → (Wide.by_phase core phase p arrived).0 ≡ Deliver
    → Wide.by_phase core phase p arrived ≡ Table.step_of core arrived
delivers_by core (Header2 heading wanted) (Awaits sect b part) (Some (block' bytes)) is =
    absurd (second_not core heading wanted bytes (kind_at bytes) is)
delivers_by core (Header2 heading wanted) (Awaits sect b part) (Some mark) is =
    absurd (then_no_mark (Wide.without_second core heading wanted)
    (without_not core heading wanted) is)
delivers_by core (Header2 heading wanted) (Awaits sect b part) (Some bad) is = refl
delivers_by core (Header2 heading wanted) (Awaits sect b part) None is = refl
delivers_by core (Header2 heading wanted) Finished arrived is = refl
delivers_by core _ p arrived is = refl

-- A step of the wider reading that delivers is that of the table.
pub delivers_same : (core : State) (arrived : Option TapeItem)
    → (Wide.step_of core arrived).0 ≡ Deliver
    → Wide.step_of core arrived ≡ Table.step_of core arrived
delivers_same core arrived is = delivers_by core core.phase core.position arrived is

-- ---- the set and the file

then_same : (core : State) (out : Outcome) (arrived : Option TapeItem) → Same core out
    → Same core (Wide.and_then out arrived)
then_same core (Passed, new) arrived s =
    let t = same_step new arrived in
    record { set_id = t.set_id ∙ s.set_id; file = t.file ∙ s.file }
then_same core (_, new) arrived s = s

without_same : (core : State) (heading : Heading) (wanted : Bool)
    → Same core (Wide.without_second core heading wanted)
without_same core heading true = same_head2 core heading (Ok absent_head2)
without_same core heading false = record { set_id = refl; file = refl }

other_same : (core : State) (heading : Heading) (wanted : Bool) (bytes : List ℕ) (t : Bool)
    → Same core (if t then Wide.without_second core heading wanted
    else Table.useless core (BadLabel (no_kind bytes)))
other_same core heading wanted bytes true = without_same core heading wanted
other_same core heading wanted bytes false = record { set_id = refl; file = refl }

second_same : (core : State) (heading : Heading) (wanted : Bool) (bytes : List ℕ)
    (k : Option Kind) → Same core (Wide.second_label core heading wanted bytes k)
second_same core heading false bytes (Some kinds.Hdr2) = record { set_id = refl; file = refl }
second_same core heading true bytes (Some kinds.Hdr2) =
    same_head2 core heading (wide_head2_at bytes)
second_same core heading true bytes _ =
    other_same core heading true bytes (is_further_header bytes)
second_same core heading false bytes _ =
    other_same core heading false bytes (is_further_header bytes)

phase_same : (core : State) (phase : Phase) (p : Position) (arrived : Option TapeItem)
    → Same core (Wide.by_phase core phase p arrived)
phase_same core (Header2 heading wanted) (Awaits sect b part) (Some (block' bytes)) =
    second_same core heading wanted bytes (kind_at bytes)
phase_same core (Header2 heading wanted) (Awaits sect b part) (Some mark) =
    then_same core _ (Some mark) (without_same core heading wanted)
phase_same core (Header2 heading wanted) (Awaits sect b part) (Some bad) =
    same_step core (Some bad)
phase_same core (Header2 heading wanted) (Awaits sect b part) None = same_step core None
phase_same core (Header2 heading wanted) Finished arrived = same_step core arrived
phase_same core _ p arrived = same_step core arrived

-- No step of either reading changes the set or the file.
pub by_one_file : (wide : Bool) (core : State) (arrived : Option TapeItem)
    → Same core (Wide.step_by wide core arrived)
by_one_file false core arrived = same_step core arrived
by_one_file true core None = phase_same core core.phase core.position None
by_one_file true core (Some item) =
    phase_same core core.phase core.position (Some (Wide.content_item core item))

-- ---- the end of a reel

pub by_end : (wide : Bool) (core : State)
    → Wide.step_by wide core None ≡ Table.step_of core None
by_end false core = refl
by_end true core = left_same core None refl

-- the content of a block in the wider reading
pub as_content : (wide : Bool) (core : State) (bytes : List ℕ) → wide ≡ true
    → Wide.bytes_as wide core bytes ≡ Wide.content_of core bytes
as_content true core bytes e = refl
as_content false core bytes e = absurd (cc)
