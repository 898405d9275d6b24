-- The content of a block that is padded with NULs or spaces, which the standard does not allow.
use Rattle.std.specs.Prelude.{ℕ, ◌==◌, ◌+◌, ◌-◌, ◌&&◌, ◌||◌, nat_lt, Bool, true, false}
use Rattle.std.specs.Prelude.{List, length, take, drop, Option, None}
use Rattle.std.specs.Prelude.{if◌then◌else◌, not, is_none}
use Rattle.std.specs.List.{position}
use Rattle.tape_label.specs.declared.values.Format.{Format}
use Rattle.tape_label.specs.declared.values.Format.TheVariants.{Fixed, Counted, Spanned}
use Rattle.tape_label.specs.declared.values.Format.TheVariants.{Undefined, Variable}
use Rattle.tape_blocks.specs.{Parts.parts_of}
use Rattle.tape_blocks.specs.{Block.spellings}

-- the index of the first byte that is not the given one, or `None`
abbrev pub other_than : ℕ → List ℕ → Option ℕ
other_than c bytes = position (λ b. not (b == c)) bytes

-- whether there is at least one byte, and all are NULs or all are spaces
abbrev pub is_foreign : List ℕ → Bool
is_foreign bytes =
    not (length bytes == 0)
    && (is_none (other_than 0 bytes) || is_none (other_than 32 bytes))

-- the formats that were padded with NULs or spaces
abbrev pub may_be_padded : Format → Bool
may_be_padded Fixed = true
may_be_padded Counted = true
may_be_padded Spanned = false
may_be_padded Undefined = false
may_be_padded Variable = false

-- the first offset, from the given one on, at which no unit begins
abbrev pub units_end : Format → ℕ → ℕ → List ℕ → ℕ
units_end format rec_len offset block =
    offset + length (spellings format (parts_of format rec_len (drop offset block)))

-- whether in format F the record before the offset `end` may be padding too: all bytes from its
-- start on are NULs, or all are spaces
abbrev pub is_ambiguous : Format → ℕ → ℕ → List ℕ → Bool
is_ambiguous Fixed rec_len end block = is_foreign (drop (end - rec_len) block)
is_ambiguous _ rec_len end block = false

-- the units of the block, if there is at least one, such padding follows them, and the last one is
-- certainly no padding; otherwise the whole block
abbrev pub content_in : Format → ℕ → ℕ → List ℕ → List ℕ
content_in format rec_len offset block =
    let end = units_end format rec_len offset block
    in if may_be_padded format && nat_lt offset end && is_foreign (drop end block)
    && not (is_ambiguous format rec_len end block)
    then take end block else block
