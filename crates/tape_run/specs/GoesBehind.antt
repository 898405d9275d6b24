-- A reading of a later file continues after that of an earlier one, in the same image.
use Rattle.std.specs.Prelude.{◌≡◌, ◌≢◌, ◌⊎◌, ℕ, Bool, false, List, [], ◌∷◌, ◌++◌, Some}
use Rattle.std.specs.List.{AllByRecursion}
use Rattle.tape_blocks.specs.Block.{Portion}
use Rattle.tape_image.specs.{Begins.Walks, Tape.TapeItem}
use Rattle.tape_core.specs.{declared.event.Answer.Answer, declared.event.Phase.TheVariants.Broken}
use Rattle.tape_core.specs.declared.event.Answer.TheVariants.{SectionDone, Complete}
use Rattle.tape_core.specs.{Behind.AreInOrder, Behind.behind_of, State.State, Known.is_finished}
use Rattle.tape_core.specs.{Table.mount_of, Wide.step_by}
use Rattle.tape_run.specs.{ByTable.PassedOver, ByTable.IsLed}
use Rattle.tape_run.specs.declared.reel_reader.ReelAnswer.{ReelAnswer}
use Rattle.tape_run.specs.Reels.{behind_items, answers_to, GoesOn, ReadsReel}

-- the answer completes a section
abbrev pub EndsSection : Answer → Type 0
EndsSection answer = (answer ≡ SectionDone) ⊎ (answer ≡ Complete)

-- A mounted reel begins with these items, after each of which the reading continues, and then with
-- one that completes a section.
pub record ReadsSection (wide : Bool) (core : State) (items : List TapeItem)
    (item : TapeItem) : Type 0 where
  pub sound : core.phase ≢ Broken
  pub on : AllByRecursion GoesOn (answers_to wide (mount_of core) items)
  pub ended : EndsSection (step_by wide (behind_items wide (mount_of core) items) (Some item)).0

-- The items that the reader of one file read up to the end of a section are skipped by the reader
-- of each later file of the set: it continues there as if it had read the reel from its start.
abbrev pub PassesFiles : Type 0
PassesFiles = (wide : Bool) (first later : State) (items : List TapeItem) (item : TapeItem)
    → AreInOrder first later → later.phase ≢ Broken → ReadsSection wide first items item
    → PassedOver wide later (items ++ item ∷ []) (behind_of later)

-- So if the table leads the continued reading over the other items, it leads over the whole reel.
abbrev pub LeadsOverAll : Type 0
LeadsOverAll = (wide : Bool) (core start new : State) (front more : List TapeItem)
    (held now : List Portion)
    → PassedOver wide core front start → IsLed wide more start new held now
    → IsLed wide (front ++ more) (mount_of core) new held now

-- After a reel that completed a section, whether it was read from its start or continued after
-- skipped items, the items that follow that section are left.
abbrev pub LeavesBehind : Type 0
LeavesBehind = (wide : Bool) (core start new : State) (front : List TapeItem) (bytes left : List ℕ)
    (answer : ReelAnswer) → is_finished core.position ≡ false → core.phase ≢ Broken
    → PassedOver wide core front start → ReadsReel wide start bytes left answer new
    → EndsSection answer.answer → (items : List TapeItem) × (item : TapeItem) × (at : ℕ)
    × ReadsSection wide core (front ++ items) item × Walks 0 bytes (items ++ item ∷ []) at left
