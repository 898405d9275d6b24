-- The parts of the units at the start of some bytes.
use Rattle.std.specs.Prelude.{ℕ, zero, suc, ◌-◌, List, [], ◌∷◌, length, take, drop, Option, Some}
use Rattle.std.specs.Prelude.{None, Result, Ok, Err}
use Rattle.tape_label.specs.declared.values.Format.{Format}
use Rattle.tape_blocks.specs.{declared.check.BlockFault.BlockFault, declared.parts.Part.Part}
use Rattle.tape_blocks.specs.{declared.check.Found.Found, Block.Portion, Units.unit_at}

-- a borrowed part, without its address
abbrev pub view : Part → Portion
view p = record { span = p.span; bytes = p.bytes.now }

-- the part in the unit that was found at the start of the bytes
abbrev pub portion : Found → List ℕ → Portion
portion found bytes =
    record { span = found.span; bytes = take (found.len - found.head) (drop found.head bytes) }

-- the length of the unit that was found, or 0
abbrev pub unit_len : Result (Option Found) BlockFault → ℕ
unit_len (Ok (Some found)) = found.len
unit_len (Ok None) = 0
unit_len (Err f) = 0

-- the part in the unit that was found, followed by `others`
abbrev pub with_unit : Result (Option Found) BlockFault → List ℕ → List Portion → List Portion
with_unit (Ok (Some found)) bytes others = portion found bytes ∷ others
with_unit (Ok None) bytes others = []
with_unit (Err f) bytes others = []

-- the parts of at most n units, up to the first offset at which no unit begins
unfoldable pub parts_by : ℕ → Format → ℕ → List ℕ → List Portion
parts_by zero format rec_len bytes = []
parts_by (suc n) format rec_len bytes =
    let unit = unit_at format rec_len bytes
    in with_unit unit bytes (parts_by n format rec_len (drop (unit_len unit) bytes))

-- the parts of all units, up to the first offset at which no unit begins
abbrev pub parts_of : Format → ℕ → List ℕ → List Portion
parts_of format rec_len bytes = parts_by (length bytes) format rec_len bytes
