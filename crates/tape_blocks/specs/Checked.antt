-- Blocks that pass the check.
use Rattle.std.specs.Prelude.{ℕ, Bool, List}
use Rattle.tape_label.specs.declared.values.Format.{Format}
use Rattle.tape_blocks.specs.{declared.parts.Shape.Shape, Block.Portion, Block.Holds, Spans.InOrder}

-- the block contains parts in span order; `begun` and `end` say whether a record is unfinished
-- before and after them
abbrev pub Passes : Format → ℕ → ℕ → Bool → List ℕ → Bool → Type 0
Passes format rec_len offset begun block end =
    (parts : List Portion) × Holds format rec_len offset block parts × InOrder begun parts end

-- the block passes for some values of `begun` and `end`
abbrev pub IsChecked : Shape → List ℕ → Type 0
IsChecked shape block =
    (begun : Bool) × (end : Bool) × (parts : List Portion)
    × Holds shape.format shape.rec_len shape.offset block parts × InOrder begun parts end
