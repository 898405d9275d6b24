-- The parts that an iterator has yielded, and those that it has left.
use Rattle.std.proofs.Common.{◌≡◌, List, [], ◌∷◌, ◌++◌, ap, ◌∙◌, map}
use Rattle.std.specs.Iterator.{YieldsFirstBy, Yields}
use Rattle.tape_blocks.specs.{declared.parts.Parts.Parts, declared.parts.Part.Part, Block.Portion}
use Rattle.tape_blocks.specs.{Parts.view, PartsLeft.parts_left}

pub yielded_parts : (s : Parts) (xs : List Part) (t : Parts)
    → Yields (YieldsFirstBy view parts_left) s xs t → parts_left s ≡ map view xs ++ parts_left t
yielded_parts s [] t y = ap parts_left y
yielded_parts s (x ∷ xs) t y =
    y.1 ∙ ap (λ (ys : List Portion). view x ∷ ys) (yielded_parts y.0 xs t y.2)
