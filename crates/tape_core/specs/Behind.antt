-- The items that a reader of a later file expects at a place that a reader of an earlier file has
-- reached.
use Rattle.std.specs.Prelude.{◌≡◌, ◌<◌, false, Option, Some, None, ⊤}
use Rattle.tape_set.specs.declared.position.Position.{Position}
use Rattle.tape_set.specs.declared.position.Position.TheVariants.{Awaits, Finished}
use Rattle.tape_core.specs.declared.event.Answer.TheVariants.{Passed, Deliver, SectionDone}
use Rattle.tape_core.specs.declared.event.Phase.TheVariants.{Over, Broken, Header2, Headers}
use Rattle.tape_core.specs.declared.event.Phase.TheVariants.{DataPassed, DataWanted, TrailerPassed}
use Rattle.tape_core.specs.declared.event.Answer.TheVariants.{Complete, Useless}
use Rattle.tape_core.specs.{declared.event.Phase.Phase, Known.is_finished, State.State}
use Rattle.tape_core.specs.declared.event.Phase.TheVariants.{TrailerWanted, Trailers}
use Rattle.tape_core.specs.Table.{Outcome, in_phase, passed}

-- the items expected if the section is skipped
abbrev pub passed_over : Phase → Phase
passed_over (Header2 heading wanted) = Header2 heading false
passed_over (Headers heading form) = Headers heading None
passed_over (DataWanted heading form seen) = DataPassed heading
passed_over (TrailerWanted heading form) = TrailerPassed heading
passed_over phase = phase

-- The items that a reader of a later file expects after an item, if the answer of a reader of an
-- earlier file determines them: after a complete section, those that follow a trailer label.
abbrev pub expected_over : Outcome → Option Phase
expected_over (Passed, core) = Some (passed_over core.phase)
expected_over (Deliver, core) = Some (passed_over core.phase)
expected_over (SectionDone, core) = Some Trailers
expected_over (Complete, core) = Some Trailers
expected_over (Useless why, core) = None

-- The reader skips the item, and then expects the given phase, if there is one.
abbrev pub PassesTo : Option Phase → State → Outcome → Type 0
PassesTo None core out = ⊤
PassesTo (Some phase) core out = out ≡ passed core phase

-- Both are readers of the set, `later` reads a later file, and neither file is complete.
pub record AreInOrder (first later : State) : Type 0 where
  pub same_set : later.set_id ≡ first.set_id
  pub earlier : first.file < later.file
  pub first_waits : is_finished first.position ≡ false
  pub later_waits : is_finished later.position ≡ false

-- the items expected if a reading continues after a trailer label
abbrev pub mounted_behind : Phase → Position → Phase
mounted_behind Broken p = Broken
mounted_behind _ Finished = Over
mounted_behind _ (Awaits sect b part) = Trailers

abbrev pub behind_of : State → State
behind_of core = in_phase core (mounted_behind core.phase core.position)
