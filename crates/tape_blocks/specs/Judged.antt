-- The result of checking a block, as a function of lists.
use Rattle.std.specs.Prelude.{ℕ, ◌+◌, nat_lt, Bool, List, [], ◌∷◌, length, drop, Option, Some, None}
use Rattle.std.specs.Prelude.{Result, Ok, Err, if◌then◌else◌}
use Rattle.tape_label.specs.declared.values.Format.{Format}
use Rattle.tape_blocks.specs.{declared.check.BlockCause.TheVariants.ShortOffset, Parts.parts_of}
use Rattle.tape_blocks.specs.{declared.check.BlockFault.BlockFault, Block.Portion, Block.spellings}
use Rattle.tape_blocks.specs.Block.{own_len, own_offset}
use Rattle.tape_blocks.specs.Spans.{continues, leaves}
use Rattle.tape_blocks.specs.Faults.{bool_eq, first_fault, tests, fault}

-- the parts before the first part that violates the span order
abbrev pub in_order : Bool → List Portion → List Portion
in_order begun [] = []
in_order begun (p ∷ ps) =
    if bool_eq (continues p.span) begun then p ∷ in_order (leaves p.span) ps else []

-- whether a record is unfinished after the parts
abbrev pub begun_behind : Bool → List Portion → Bool
begun_behind begun [] = begun
begun_behind begun (p ∷ ps) = begun_behind (leaves p.span) ps

-- the fault, if there is one; otherwise whether a record is unfinished
abbrev pub unless_fault : Bool → Option BlockFault → Result Bool BlockFault
unless_fault end None = Ok end
unless_fault end (Some f) = Err f

-- the result of the tests of the bytes after the given parts
abbrev pub judged_behind : Format → ℕ → ℕ → Bool → List ℕ → List Portion → Result Bool BlockFault
judged_behind format rec_len offset begun block parts =
    let at = offset + length (spellings format parts)
    in let end = begun_behind begun parts
    in unless_fault end (first_fault (tests format rec_len end at (drop at block)))

-- whether a record is unfinished at the end of the block, or the block's fault: the parts in span
-- order at its start are skipped, and the bytes after them are tested
unfoldable pub judged_units : Format → ℕ → ℕ → Bool → List ℕ → Result Bool BlockFault
judged_units format rec_len offset begun block =
    if nat_lt (length block) offset then Err (fault 0 ShortOffset)
    else judged_behind format rec_len offset begun block
    (in_order begun (parts_of format rec_len (drop offset block)))

-- the same, but in format U with the block's own record length, and in format V with its own offset
unfoldable pub judged : Format → ℕ → ℕ → Bool → List ℕ → Result Bool BlockFault
judged format rec_len offset begun block =
    judged_units format (own_len format rec_len offset block) (own_offset format offset block)
    begun block
