-- Where the reader's table leads for any items, whether or not they are those of a valid set, in
-- the wider reading (`wide`) or in that of the table.
use Rattle.std.specs.Prelude.{◌≡◌, ℕ, Bool, ◌<◌, ◌+◌, List, [], ◌∷◌, ◌++◌, length, take, drop}
use Rattle.std.specs.Prelude.{Option}
use Rattle.std.specs.{Prelude.Some, Prelude.None, List.AllByRecursion}
use Rattle.tape_blocks.specs.{Block.Portion, Judged.begun_behind}
use Rattle.tape_image.specs.Tape.{TapeItem, block}
use Rattle.tape_set.specs.{Lawful.FileForm, Position.part_of, Position.at_part}
use Rattle.tape_set.specs.declared.position.Position.{Position}
use Rattle.tape_core.specs.declared.event.{Answer.Answer, Answer.TheVariants.Deliver}
use Rattle.tape_core.specs.declared.event.Answer.TheVariants.{Passed}
use Rattle.tape_core.specs.{State.State, Parts.parts_in, Place.rest_of, Place.place_of}
use Rattle.tape_core.specs.Table.{saved, mount_of}
use Rattle.tape_core.specs.Wide.{step_by, read_as}
use Rattle.tape_run.specs.{Puts.refused_point, Reels.behind_items, Reels.answers_to}

-- the parts of a block from the expected one on, in the form known of its file
abbrev pub parts_from : Position → Option FileForm → List ℕ → List Portion
parts_from p None content = []
parts_from p (Some form) content = drop (part_of p) (parts_in form content)

-- the parts that an item delivers by its answer: those of a block that is the expected one
abbrev pub parts_by : Answer → TapeItem → Position → Option FileForm → List Portion
parts_by Deliver (block content) p known = parts_from p known content
parts_by answer item p known = []

-- the parts that the item delivers to a core
abbrev pub parts_at : Bool → State → TapeItem → List Portion
parts_at wide core item =
    parts_by (step_by wide core (Some item)).0 (read_as wide core item) core.position
    (step_by wide core (Some item)).1.known

-- the parts that these items deliver, one after another
abbrev pub delivered_parts : Bool → State → List TapeItem → List Portion
delivered_parts wide core [] = []
delivered_parts wide core (x ∷ xs) = parts_at wide core x ++ delivered_parts wide
    (step_by wide core (Some x)).1 xs

-- The table leads the core over these items to its current state, and exactly the parts that they
-- deliver were added to `held`.
pub record IsLed (wide : Bool) (xs : List TapeItem) (core new : State)
    (held now : List Portion) : Type 0 where
  pub place : new ≡ rest_of (behind_items wide core xs)
  pub parts : now ≡ held ++ delivered_parts wide core xs

-- The reader of a mounted reel skipped all these items, with nothing delivered, and continues from
-- this state.
pub record PassedOver (wide : Bool) (core : State) (items : List TapeItem)
    (start : State) : Type 0 where
  pub answers : AllByRecursion (λ a. a ≡ Passed) (answers_to wide (mount_of core) items)
  pub behind : behind_items wide (mount_of core) items ≡ start
  pub nothing : delivered_parts wide (mount_of core) items ≡ []

-- A part of the block was refused: the parts before it, if any, were delivered, and the core's
-- position is the refused part; if this is the expected part, the core is unchanged.
pub record StopsInside (wide : Bool) (core new : State) (item : TapeItem) (held now : List Portion)
    : Type 0 where
  pub delivers : (step_by wide core (Some item)).0 ≡ Deliver
  pub more : ℕ
  pub within : more < length (parts_at wide core item)
  pub parts : now ≡ held ++ take more (parts_at wide core item)
  pub position : new.position ≡ at_part (part_of core.position + more) core.position
  pub place : new ≡ place_of (refused_point (saved core 0)
      (saved (step_by wide core (Some item)).1 0)
      (part_of core.position + more) (begun_behind core.begun
      (take more (parts_at wide core item))))

-- After some of these items a part of the next item's block was refused.
pub record IsCutAt (wide : Bool) (xs : List TapeItem) (core new : State) (held now : List Portion)
    : Type 0 where
  pub before : List TapeItem
  pub item : TapeItem
  pub behind : List TapeItem
  pub all : xs ≡ before ++ item ∷ behind
  pub stops : StopsInside wide (behind_items wide core before) new item
      (held ++ delivered_parts wide core before) now
