-- Answers that the contract of `ReaderCore::step` excludes: each is the answer of a wrong body.
-- `Cases` proves that the readers and labels used here can exist.
use Rattle.std.proofs.Common.{◌≡◌, sym, ap, ◌∙◌, Ok}
use denote.MutBor.{MutBor}
use Rattle.tape_label.specs.Reading.{head1_at}
use Rattle.tape_set.specs.declared.position.Position.TheVariants.{Awaits}
use Rattle.tape_core.specs.declared.event.Answer.TheVariants.{Passed, Useless}
use Rattle.tape_core.specs.{declared.event.Event.Event, State.State, Table.at_head1}
use Rattle.tape_core.specs.declared.event.Reason.TheVariants as reasons
use Rattle.tape_core.specs.declared.event.Event.TheVariants as events
use Rattle.tape_core.specs.declared.event.Phase.TheVariants as phases
use Rattle.tape_core.proofs.Cases.{fixed, at_start, inside, headed, head}
use Rattle.tape_core.proofs.reader.ReaderCore.step.Reads as step

-- the arguments of a step: the reader, and the event
abbrev called : MutBor State → State → Event → MutBor State × (Event × Unit {0})
called r old event = (record r { now = old }, (event, tt))

-- ---- headers

-- section_number_not_compared: the header of section 1 is accepted although section 2 is expected
section_number_not_compared : (κs : _) (r : MutBor State) (b : _) (s : _)
    → step.Learnt-named κs
    (called r (inside (Awaits 2 0 0) phases.NextFile) (events.Block b)) Passed s
    → head1_at b.now ≡ Ok (head 1) → ⊥
section_number_not_compared κs r b s l h =
    let old : State = inside (Awaits 2 0 0) phases.NextFile in
    let e : (Passed, s.0.now) ≡ at_head1 old (head1_at b.now) = l.table in
    let d : Passed ≡ Useless reasons.EarlierSection = ap (λ o. o.0) (e ∙ ap (at_head1 old) h) in
    absurd (cc)

-- ---- data

-- skips_unreadable_block: a bad item is skipped although block 3 is expected and three blocks were
-- seen
skips_unreadable_block : (κs : _) (r : MutBor State) (s : _)
    → step.Learnt-named κs
    (called r (inside (Awaits 1 3 0) (phases.DataWanted headed fixed 3)) events.Bad) Passed s
    → ⊥
skips_unreadable_block κs r s l =
    let e : Passed ≡ Useless reasons.BadItem = ap (λ o. o.0) l.table in absurd (cc)

-- ---- trailers

-- files_passed_by_counting_marks: after the mark that ends skipped data no trailer is checked
files_passed_by_counting_marks : (κs : _) (r : MutBor State) (s : _)
    → step.Learnt-named κs
    (called r (record (at_start (phases.DataPassed headed)) { file = 2 }) events.Mark) Passed s
    → s.0.now.phase ≡ phases.Trailers → ⊥
files_passed_by_counting_marks κs r s l w =
    let e : phases.Trailers ≡ phases.TrailerPassed headed
    = sym w ∙ ap (λ o. o.1.phase) l.table in
    absurd (cc)
