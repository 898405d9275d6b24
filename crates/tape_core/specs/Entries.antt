-- Parts whose bytes are consecutive.
use Rattle.std.specs.Prelude.{◌≡◌, ◌≤◌, ℕ, ◌+◌, List, [], ◌∷◌, length, slice_range, Option, Some}
use Rattle.std.specs.Prelude.{None}
use Rattle.std.proofs.Props.{props}
use Rattle.tape_blocks.specs.declared.parts.Part.{Part}
use Rattle.tape_blocks.specs.{Parts.view, Block.Portion, Packing.longest_block}
use Rattle.tape_core.specs.declared.event.Entry.{Entry}

-- the part of an entry whose bytes begin at the offset `start`
abbrev pub part_at : ℕ → Entry → List ℕ → Portion
part_at start e bytes = record { span = e.span; bytes = slice_range bytes start e.end }

-- the parts of the entries; the bytes of the first part begin at the offset `start`
abbrev pub parts_from : ℕ → List Entry → List ℕ → List Portion
parts_from start [] bytes = []
parts_from start (e ∷ es) bytes = part_at start e bytes ∷ parts_from e.end es bytes

-- the offset at which the last part ends, or `start` if there are no parts
abbrev pub end_from : ℕ → List Entry → ℕ
end_from start [] = start
end_from start (e ∷ es) = end_from e.end es

-- each part begins at the end of the part before it, no part has more than 99,999 bytes, and the
-- last part ends at `finish`
abbrev pub AreLaid : ℕ → List Entry → ℕ → Type 0
AreLaid start [] finish = start ≡ finish
AreLaid start (e ∷ es) finish = (start ≤ e.end) × (e.end ≤ start + longest_block)
    × AreLaid e.end es finish

-- the bytes of the parts, in order, are exactly `bytes`
abbrev pub IsLaid : List Entry → List ℕ → Type 0
IsLaid es bytes = AreLaid 0 es (length bytes)

are_laid_one_way : (start : ℕ) (es : List Entry) (finish : ℕ) → IsProp (AreLaid start es finish)
are_laid_one_way start [] finish = Prim.hlevel props
are_laid_one_way start (e ∷ es) finish = Prim.hlevel (props, are_laid_one_way e.end es finish)

pub laid_one_way : (es : List Entry) (bytes : List ℕ) → IsProp (IsLaid es bytes)
laid_one_way es bytes = are_laid_one_way 0 es (length bytes)

-- the part that is borrowed, if there is one
abbrev pub viewed : Option Part → Option Portion
viewed (Some part) = Some (view part)
viewed None = None
