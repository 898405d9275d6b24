-- The state of a reader between two reels, and the parts before its position.
use Rattle.std.specs.Prelude.{◌≡◌, List}
use Rattle.tape_blocks.specs.Block.{Portion}
use Rattle.tape_set.specs.{Layout.FileSet, Before.before}
use Rattle.tape_core.specs.{declared.event.Phase.Phase, State.State, Point.Point, Follows.IsAt}
use Rattle.tape_core.specs.declared.event.Phase.TheVariants.{Over, Broken}

-- the phase between two reels, which says only whether the reader is broken
abbrev pub resting : Phase → Phase
resting Broken = Broken
resting _ = Over

-- the state with no reading in progress
abbrev pub rest_of : State → State
rest_of core = record core { phase = resting core.phase }

-- the state that a checkpoint describes
abbrev pub place_of : Point → State
place_of c =
    record {
      set_id = c.set_id;
      file = c.file;
      position = c.position;
      begun = c.begun;
      known = c.known;
      phase = Over;
    }

-- The reader has a position in a file of the set, and `parts` are the parts before it.
pub record IsPlaced (set : FileSet) (core : State) (parts : List Portion) : Type 0 where
  pub at : IsAt set core
  pub all : parts ≡ before set core.file core.position
