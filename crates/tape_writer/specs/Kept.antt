-- The contents of tapes in memory.
use Rattle.std.specs.Prelude.{List, None, Option, Some, ℕ, map}
use Rattle.tape_image.specs.{Tape.TapeItem, Tape.block, Tape.mark}
use Rattle.tape_writer.specs.Tapes.{Ended, Failures, Tapes, UnderWay}
use Rattle.tape_writer.specs.{declared.memory.Kept.Kept, declared.memory.Kept.TheVariants.Block}
use Rattle.tape_writer.specs.{declared.memory.Kept.TheVariants.Mark}

-- the state of tapes in memory that contracts see: their volumes, the number of misuses, and the
-- number of failed allocations
pub record InMemory : Type 0 where
  pub tapes : Tapes
  pub misused : ℕ
  pub refused : ℕ

-- the failures of tapes in memory: calls without a current volume, and failed allocations
abbrev pub failures_in : InMemory → Failures
failures_in m = record { device = m.misused; memory = m.refused }

-- an item in memory
abbrev pub item_of : Kept → TapeItem
item_of (Block bytes) = block bytes.items
item_of Mark = mark

-- a volume in memory
abbrev pub volume_of : List Kept → List TapeItem
volume_of kept = map item_of kept

-- the volumes that have ended, and the current volume, if there is one
abbrev pub tapes_of : List (List Kept) → Option (List Kept) → Tapes
tapes_of ended None = Ended (map volume_of ended)
tapes_of ended (Some current) = UnderWay (map volume_of ended) (volume_of current)
