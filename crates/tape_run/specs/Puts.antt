-- Parts of a block that were put.
use Rattle.std.specs.Prelude.{◌≡◌, ℕ, ◌<◌, ◌≤◌, ◌==◌, Bool, if◌then◌else◌, List, ◌++◌, length, take}
use Rattle.std.specs.Prelude.{drop}
use Rattle.tape_blocks.specs.{Block.Portion, Judged.begun_behind}
use Rattle.tape_set.specs.Position.{part_of}
use Rattle.tape_core.specs.{Point.Point, State.State, Table.saved, Stands.inside_block}
use Rattle.tape_core.specs.Place.{place_of}

-- the checkpoint at the refused part of a block: the one before the block if no part of it was put
abbrev pub refused_point : Point → Point → ℕ → Bool → Point
refused_point before after part begun =
    if part == part_of before.position then before
    else inside_block after before.position part begun 0

-- The parts before the n-th were put, and the core moved back from after the block to this part.
pub record PutUpTo (new : List Portion → Type 0) (before : Point) (held parts : List Portion)
    (behind place : State) : Type 0 where
  pub n : ℕ
  pub from : part_of before.position ≤ n
  pub within : n < length parts
  pub held_now : new (held ++ drop (part_of before.position) (take n parts))
  pub back : place ≡ place_of (refused_point before (saved behind 0) n (begun_behind before.begun
      (drop (part_of before.position) (take n parts))))
