-- The answer of a reel: the core's answers to the items that the reader returned, one after
-- another, in the wider reading (`wide`) or in that of the table.
use Rattle.std.specs.Prelude.{◌≡◌, ◌⊎◌, ℕ, ◌+◌, ◌≤◌, Bool, List, [], ◌∷◌, ◌++◌, Option, Some, None}
use Rattle.std.specs.{Prelude.⊤, List.AllByRecursion}
use Rattle.tape_image.specs.{declared.item.ImageFault.ImageFault, declared.item.Ending.Ending}
use Rattle.tape_image.specs.{Tape.TapeItem, Tape.block, Begins.Walks, Reader.IfKnown}
use Rattle.tape_image.specs.Step.{TakesEnd, TakesFault}
use Rattle.tape_core.specs.{declared.event.Answer.Answer, State.State, Point.Point, Follows.IsFinal}
use Rattle.tape_core.specs.declared.event.Answer.TheVariants.{Passed, Deliver, Complete}
use Rattle.tape_core.specs.Place.{rest_of, place_of}
use Rattle.tape_core.specs.{Table.saved, Wide.step_by}
use Rattle.tape_set.specs.{Position.part_of, declared.position.Position.Position}
use Rattle.tape_set.specs.declared.position.Position.TheVariants.{Awaits, Finished}
use Rattle.tape_run.specs.{declared.reel_reader.ReelAnswer.ReelAnswer, Puts.refused_point}
use Rattle.tape_run.specs.declared.fault.RunFault.{RunFault}
use Rattle.tape_run.specs.declared.fault.RunFault.TheVariants.{Sink, OutOfMemory}

-- the core after these items
abbrev pub behind_items : Bool → State → List TapeItem → State
behind_items wide core [] = core
behind_items wide core (x ∷ xs) = behind_items wide (step_by wide core (Some x)).1 xs

-- its answers to them
abbrev pub answers_to : Bool → State → List TapeItem → List Answer
answers_to wide core [] = []
answers_to wide core (x ∷ xs) = (step_by wide core (Some x)).0 ∷ answers_to wide
    (step_by wide core (Some x)).1 xs

-- the reading continues after this answer
abbrev pub GoesOn : Answer → Type 0
GoesOn answer = (answer ≡ Passed) ⊎ (answer ≡ Deliver)

-- the number of delivered blocks
abbrev pub delivered_by : List Answer → ℕ
delivered_by [] = 0
delivered_by (Deliver ∷ answers) = 1 + delivered_by answers
delivered_by (answer ∷ answers) = delivered_by answers

-- The bytes begin with these items, after each of which the reading continued; then an item ended
-- it, nothing after that was taken, and the core has its new state.
pub record EndedByItem (wide : Bool) (core : State) (items : List TapeItem) (bytes left : List ℕ)
    (answer : ReelAnswer) (new : State) : Type 0 where
  pub item : TapeItem
  pub last : (answer.answer, new) ≡ step_by wide (behind_items wide core items) (Some item)
  pub final : IsFinal answer.answer
  pub no_fault : answer.fault ≡ None
  pub at : ℕ
  pub taken : Walks 0 bytes (items ++ item ∷ []) at left

-- The bytes begin with these items, after each of which the reading continued; then the medium
-- ended.
pub record EndedByMedium (wide : Bool) (core : State) (items : List TapeItem) (bytes left : List ℕ)
    (answer : ReelAnswer) (new : State) : Type 0 where
  pub last : (answer.answer, new) ≡ step_by wide (behind_items wide core items) None
  pub no_fault : answer.fault ≡ None
  pub ending : Ending
  pub at : ℕ
  pub taken : TakesEnd 0 items ending at bytes left

-- The bytes begin with these items, after each of which the reading continued; then the image had a
-- fault, which is reported.
pub record EndedByFault (wide : Bool) (core : State) (items : List TapeItem) (bytes left : List ℕ)
    (answer : ReelAnswer) (new : State) : Type 0 where
  pub last : (answer.answer, new) ≡ step_by wide (behind_items wide core items) None
  pub fault : ImageFault
  pub told : answer.fault ≡ Some fault
  pub taken : TakesFault 0 items fault bytes left

-- A core at the start of a reel took the items that the bytes begin with, up to the one, the end or
-- the fault that ended the reading; what is left was not read. The answer is the core's last one,
-- with the fault and the blocks delivered.
pub record ReadsReel (wide : Bool) (core : State) (bytes left : List ℕ) (answer : ReelAnswer)
    (new : State)
    : Type 0 where
  pub items : List TapeItem
  pub on : AllByRecursion GoesOn (answers_to wide core items)
  pub blocks : answer.blocks ≡ delivered_by (answers_to wide core items)
  pub ended : EndedByItem wide core items bytes left answer new
      ⊎ (EndedByMedium wide core items bytes left answer new
      ⊎ EndedByFault wide core items bytes left answer new)

-- A part of the block between these two checkpoints was refused, the expected one or a later one,
-- and the core's position is that part.
abbrev pub StopsAt : Point → Point → State → Type 0
StopsAt before after new = (part : ℕ) × (begun : Bool) × (part_of before.position ≤ part)
    × (rest_of new ≡ place_of (refused_point before after part begun))

-- The same up to a block that was delivered and of which the sink refused a part.
pub record ReadsToBlock (wide : Bool) (new core : State) (bytes left : List ℕ) : Type 0 where
  pub items : List TapeItem
  pub on : AllByRecursion GoesOn (answers_to wide core items)
  pub content : List ℕ
  pub delivers : (step_by wide (behind_items wide core items) (Some (block content))).0 ≡ Deliver
  pub stops : StopsAt (saved (behind_items wide core items) 0)
      (saved (step_by wide (behind_items wide core items) (Some (block content))).1 0) new
  pub at : ℕ
  pub taken : Walks 0 bytes (items ++ block content ∷ []) at left

-- The answer of a reel, its unread bytes, and the state then: for a complete file nothing is read,
-- otherwise the reel is read from the state in which it is mounted.
abbrev pub Reads : Bool → Position → State → State → List ℕ → List ℕ → ReelAnswer → State → Type 0
Reads wide Finished core mounted bytes left answer new = (left ≡ bytes) × (answer.answer ≡ Complete)
    × (answer.fault ≡ None) × (answer.blocks ≡ 0) × (new ≡ core)
Reads wide (Awaits sect number part) core mounted bytes left answer new =
    ReadsReel wide mounted bytes left answer new

-- The unread bytes of a reel that was not read to its end, if they are known, and the state then:
-- the bytes after the refused block, or all bytes if memory was refused.
abbrev pub Leaves : Bool → RunFault → State → Option (List ℕ) → Option (List ℕ) → State → Type 0
Leaves wide (Sink cause) core old left new = IfKnown old left (ReadsToBlock wide new core)
Leaves wide OutOfMemory core old left new = left ≡ old
Leaves wide fault core old left new = ⊤
