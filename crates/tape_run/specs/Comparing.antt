-- A reel, compared with the data delivered before it.
use Rattle.std.specs.Prelude.{◌≡◌, ◌⊎◌, ℕ, ◌<◌, ◌≤◌, ◌++◌, ◌∷◌, [], List, Bool, Option, Some, None}
use Rattle.std.specs.Prelude.{◌≢◌, take, length, nat_lt, if◌then◌else◌}
use Rattle.tape_image.specs.{Tape.TapeItem, Tape.block, Tape.bad, Begins.Walks}
use Rattle.tape_image.specs.{declared.item.ImageFault.ImageFault, declared.item.Ending.Ending}
use Rattle.tape_image.specs.Step.{TakesEnd, TakesFault}
use Rattle.tape_blocks.specs.{declared.parts.Shape.Shape, Block.Portion, Block.Holds}
use Rattle.tape_blocks.specs.Spans.{InOrder}
use Rattle.tape_set.specs.Layout.{Section}
use Rattle.tape_core.specs.{Parts.goes_on_at, State.State, Overlap.Contains, Wide.step_by}
use Rattle.tape_core.specs.Overlap.{delivered_after}
use Rattle.tape_core.specs.{Place.place_of, Table.saved, Table.mount_of}
use Rattle.tape_core.specs.{Wide.read_as, declared.event.Phase.Phase}
use Rattle.tape_core.specs.declared.event.Phase.TheVariants.{DataWanted}
use Rattle.tape_core.specs.declared.event.Answer.TheVariants.{Passed}
use Rattle.tape_run.specs.Reels.{behind_items}
use Rattle.tape_run.specs.declared.session.compared.overlap.{Overlap.Overlap, Found.Found}
use Rattle.tape_run.specs.declared.session.compared.overlap.Found.TheVariants as founds

-- The block contains these parts in this shape, in span order from what its first unit says.
abbrev pub Reads : Shape → List ℕ → List Portion → Type 0
Reads shape bytes parts = Holds shape.format shape.rec_len shape.offset bytes parts
    × ((end : Bool) × InOrder (goes_on_at shape.format shape.offset bytes) parts end)

-- a core at the position of a session's core, at the start of a reel
abbrev pub core_before : State → State
core_before core = mount_of (place_of (saved core 0))

-- An item of a reading in this phase, compared with the parts that are to come: if it is a block of
-- the section needed, with the number `from` or a greater one, they begin with its parts. No
-- unreadable item is in place of such a block. `left` are to come after the item.
abbrev pub Meets : ℕ → Phase → TapeItem → List Portion → List Portion → Type 0
Meets from (DataWanted heading form seen) (block content) ahead left =
    ((seen < from) × (left ≡ ahead)) ⊎ ((from ≤ seen) × ((parts : List Portion)
    × Contains form content parts × (ahead ≡ parts ++ left)))
Meets from (DataWanted heading form seen) bad ahead left = (seen < from) × (left ≡ ahead)
Meets from phase item ahead left = left ≡ ahead

-- The same for an item that a core takes next, if there is one.
abbrev pub CameMeets : Bool → ℕ → State → Option TapeItem → List Portion → List Portion → Type 0
CameMeets wide from core (Some item) ahead left =
    Meets from core.phase (read_as wide core item) ahead left
CameMeets wide from core None ahead left = left ≡ ahead

-- The same for items that a core takes, one after another, and passes.
abbrev pub MeetAll : Bool → ℕ → State → List TapeItem → List Portion → List Portion → Type 0
MeetAll wide from core [] ahead left = left ≡ ahead
MeetAll wide from core (x ∷ xs) ahead left = ((step_by wide core (Some x)).0 ≡ Passed)
    × (mid : List Portion)
    × Meets from core.phase (read_as wide core x) ahead mid
    × MeetAll wide from (step_by wide core (Some x)).1 xs mid left

-- The item is a block of the section needed, and the parts that are to come begin with its first
-- `part` parts. `left` are to come after them.
abbrev pub MeetsFront : ℕ → Phase → TapeItem → List Portion → List Portion → Type 0
MeetsFront part (DataWanted heading form seen) (block content) ahead left =
    (parts : List Portion) × Contains form content parts × (part ≤ length parts)
    × (ahead ≡ take part parts ++ left)
MeetsFront part phase item ahead left = ⊥

-- In this phase a block of the section needed is expected, with this number or a greater one.
abbrev pub IsBehind : ℕ → Phase → Type 0
IsBehind number (DataWanted heading form seen) = number ≤ seen
IsBehind number phase = ⊥

-- At the block at which the session continues, the parts that are to come begin with those of its
-- parts that the session has.
abbrev pub IsThere : Bool → Overlap → State → Option TapeItem → List Portion → List Portion
    → Type 0
IsThere wide o core came ahead left = IsBehind o.block core.phase
    × (((o.part ≡ 0) × (left ≡ ahead)) ⊎ ((item : TapeItem) × (came ≡ Some item)
    × MeetsFront o.part core.phase (read_as wide core item) ahead left))

-- The item is a block that has other parts than those that are to come; or the session has first
-- parts of a block, and the item in its place is a block that does not begin with them, or a mark.
abbrev pub IsOther : Bool → Overlap → State → TapeItem → List Portion → Type 0
IsOther wide o core item ahead = ((content : List ℕ) × (item ≡ block content)
    × (IsBehind o.block core.phase → ⊥) × ((left : List Portion)
    → Meets o.from core.phase (read_as wide core item) ahead left → ⊥))
    ⊎ (IsBehind o.block core.phase × IsBehind o.from core.phase × (0 < o.part) × (item ≢ bad)
    × ((left : List Portion)
    → MeetsFront o.part core.phase (read_as wide core item) ahead left → ⊥))

-- The items of a reading by this core, with which the bytes begin, have the parts that are to come:
-- up to the block at which the session continues, with those of its parts that the session has.
-- `left` are to come after them.
pub record IsSame (wide : Bool) (o : Overlap) (core : State) (bytes : List ℕ)
    (ahead left : List Portion) : Type 0 where
  pub items : List TapeItem
  pub at : ℕ
  pub rest : List ℕ
  pub taken : Walks 0 bytes items at rest
  pub mid : List Portion
  pub met : MeetAll wide o.from core items ahead mid
  pub there : IsBehind o.block (behind_items wide core items).phase
  pub ends : ((o.part ≡ 0) × (left ≡ mid))
      ⊎ ((item : TapeItem) × (end : ℕ) × (more : List ℕ)
      × Walks 0 bytes (items ++ item ∷ []) end more
      × MeetsFront o.part (behind_items wide core items).phase
      (read_as wide (behind_items wide core items) item) mid left)

-- An item of the reading has other parts than those that are to come after the items before it.
pub record IsUnlike (wide : Bool) (o : Overlap) (core : State) (bytes : List ℕ)
    (ahead : List Portion) : Type 0 where
  pub items : List TapeItem
  pub item : TapeItem
  pub at : ℕ
  pub rest : List ℕ
  pub taken : Walks 0 bytes (items ++ item ∷ []) at rest
  pub left : List Portion
  pub met : MeetAll wide o.from core items ahead left
  pub other : IsOther wide o (behind_items wide core items) item left

-- After these items, with which the bytes begin, an unreadable one takes the place of a block that
-- would be compared.
abbrev pub IsCut : Bool → ℕ → State → List ℕ → List TapeItem → Type 0
IsCut wide from core bytes items = (end : ℕ) × (rest : List ℕ)
    × Walks 0 bytes (items ++ bad ∷ []) end rest
    × IsBehind from (behind_items wide core items).phase

-- A reading by this core ends after these items, with which the bytes begin: by the next item, at
-- the end of the medium, or at a fault.
abbrev pub IsOver : Bool → ℕ → State → List ℕ → List TapeItem → Type 0
IsOver wide from core bytes items =
    ((item : TapeItem) × (end : ℕ) × (rest : List ℕ) × Walks 0 bytes (items ++ item ∷ []) end rest
    × ((step_by wide (behind_items wide core items) (Some item)).0 ≢ Passed))
    ⊎ (((ending : Ending) × (end : ℕ) × (rest : List ℕ) × TakesEnd 0 items ending end bytes rest)
    ⊎ ((fault : ImageFault) × (rest : List ℕ) × TakesFault 0 items fault bytes rest))

-- The items of the reading have the parts that are to come, up to where `so` is true of them.
pub record IsSameTo (so : Bool → ℕ → State → List ℕ → List TapeItem → Type 0) (wide : Bool)
    (o : Overlap) (core : State) (bytes : List ℕ) (ahead : List Portion) : Type 0 where
  pub items : List TapeItem
  pub at : ℕ
  pub rest : List ℕ
  pub taken : Walks 0 bytes items at rest
  pub left : List Portion
  pub met : MeetAll wide o.from core items ahead left
  pub ends : so wide o.from core bytes items

-- The same up to an unreadable block, or up to the end of the reading.
abbrev pub IsSameFront : Bool → Overlap → State → List ℕ → List Portion → Type 0
IsSameFront wide o core bytes ahead =
    IsSameTo IsCut wide o core bytes ahead ⊎ IsSameTo IsOver wide o core bytes ahead

-- What a comparison of the items of a reading with the parts that are to come found; `now` relates
-- to what is to come after them.
abbrev pub Finds : Bool → Overlap → State → List ℕ → Found → (List Portion → Type 0)
    → List Portion → Type 0
Finds wide o core bytes founds.Same now ahead =
    (left : List Portion) × IsSame wide o core bytes ahead left × now left
Finds wide o core bytes founds.Other now ahead = IsUnlike wide o core bytes ahead
Finds wide o core bytes founds.Unknown now ahead = IsSameTo IsCut wide o core bytes ahead
Finds wide o core bytes founds.Ended now ahead = IsSameTo IsOver wide o core bytes ahead

-- What a comparison of the items of a reading with all of these parts found.
abbrev pub FindsAll : Bool → Overlap → State → List ℕ → Found → List Portion → Type 0
FindsAll wide o core bytes founds.Same parts = IsSame wide o core bytes parts []
FindsAll wide o core bytes founds.Other parts = IsUnlike wide o core bytes parts
    ⊎ ((left : List Portion) × (left ≢ []) × IsSame wide o core bytes parts left)
FindsAll wide o core bytes founds.Unknown parts = IsSameTo IsCut wide o core bytes parts
FindsAll wide o core bytes founds.Ended parts = IsSameTo IsOver wide o core bytes parts

-- the parts that a session at the overlap's position has of the section, from the overlap's first
-- block on
abbrev pub had_from : Section → Overlap → List Portion
had_from section o =
    if nat_lt o.block o.from then [] else delivered_after section o.from o.block o.part

-- the overlap in which each block of the section is compared, up to a position
abbrev pub up_to : ℕ → ℕ → Overlap
up_to number part = record {
  block = number;
  part = part;
  from = 0;
  weight = 0;
  place = 0;
}
