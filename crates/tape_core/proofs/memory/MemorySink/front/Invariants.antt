use Rattle.std.proofs.Common.{◌≡◌, ◌≤◌, ◌<◌, ◌+◌, List, ◌∷◌, length, take, drop}
use Rattle.tape_blocks.specs.Block.{Portion}
use Rattle.tape_core.specs.{Stands.weight_of, Memory.portions}
use Rattle.tape_core.proofs.memory.MemorySink.front.Given as goal

-- the parts up to here and the next one are too heavy
abbrev pub invariant-loop-number : goal.invariant-loop-number
invariant-loop-number l = (l.number ≤ length (portions l.self))
    × ((part : Portion) (parts : List Portion) → drop l.number (portions l.self) ≡ part ∷ parts
    → l.most < weight_of (take l.number (portions l.self)) + (5 + length part.bytes))

abbrev pub decreases-loop-number : goal.decreases-loop-number
decreases-loop-number l = l.number
