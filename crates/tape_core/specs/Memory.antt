-- The contents of a sink in memory.
use Rattle.std.specs.Prelude.{◌≡◌, ◌<◌, ◌≤◌, ◌+◌, ℕ, List, ◌∷◌, ◌++◌, length}
use Rattle.tape_blocks.specs.Block.{Portion}
use Rattle.tape_core.specs.{Entries.parts_from, Stands.weight_of}
use Rattle.tape_core.specs.declared.memory.MemorySink.{MemorySink}

-- the parts, in order
abbrev pub portions : MemorySink → List Portion
portions sink = parts_from 0 sink.entries.items sink.bytes.items

-- xs is the longest prefix of ys that weighs at most `most`
pub record IsLongestFront (most : ℕ) (xs ys : List Portion) : Type 0 where
  pub rest : List Portion
  pub whole : ys ≡ xs ++ rest
  pub light : weight_of xs ≤ most
  pub next : (part : Portion) (parts : List Portion) → rest ≡ part ∷ parts
      → most < weight_of xs + (5 + length part.bytes)
