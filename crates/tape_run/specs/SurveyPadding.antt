-- What follows the last records of blocks, and is or may be padding.
use Rattle.std.specs.Prelude.{ℕ, ◌+◌, ◌-◌, ◌%◌, ◌==◌, ◌&&◌, nat_le, nat_lt}
use Rattle.std.specs.Prelude.{not, Bool, true, false}
use Rattle.std.specs.Prelude.{if◌then◌else◌, List, length, drop, slice_get, codes}
use Rattle.std.specs.Prelude.{Option, Some, None, is_none, is_some}
use Rattle.tape_label.specs.declared.values.{Head2.Head2, Format.Format}
use Rattle.tape_label.specs.declared.values.Format.TheVariants.{Fixed}
use Rattle.tape_blocks.specs.Block.{first_other}
use Rattle.tape_run.specs.declared.{section.Entry.Entry, survey.fits.Fit.Fit}
use Rattle.tape_run.specs.declared.survey.padding.Padding.{Padding}
use Rattle.tape_run.specs.declared.survey.padding.Padding.TheVariants.{Nuls, Spaces, Circumflexes}

-- the last record of a block of records of this length after this offset, and all after it
abbrev pub last_record : ℕ → ℕ → List ℕ → List ℕ
last_record rec_len offset b = drop (length b - (length b - offset) % rec_len - rec_len) b

-- whether the format is F, there is a record, and the last one and all after it are circumflexes
abbrev pub ends_by : Format → ℕ → ℕ → List ℕ → Bool
ends_by Fixed rec_len offset b =
    nat_lt 0 rec_len && nat_le (offset + rec_len) (length b)
    && is_none (first_other (last_record rec_len offset b))
ends_by _ rec_len offset b = false

-- the same by the second label
abbrev pub ends_in_circumflexes : Head2 → List ℕ → Bool
ends_in_circumflexes form b = ends_by form.format form.rec_len form.offset b

-- whether there is a byte, and it is a NUL
abbrev pub is_nul : Option ℕ → Bool
is_nul None = false
is_nul (Some c) = c == 0

-- the padding that was left out of a block, all of one byte: NULs, or else spaces
abbrev pub left_out : List ℕ → Padding
left_out b = if is_nul (slice_get b (length b - 1)) then Nuls else Spaces

-- the padding of a block, of which some was left out or not
abbrev pub last_padding : Bool → Head2 → List ℕ → Option Padding
last_padding padded form b =
    if padded then Some (left_out b)
    else (if ends_in_circumflexes form b then Some Circumflexes else None)

-- the padding of a section after one more block: what was left out is kept, and a record of
-- circumflexes counts only as the last one
abbrev pub padding_after : Option Padding → Bool → Head2 → List ℕ → Option Padding
padding_after (Some Nuls) padded form b = Some Nuls
padding_after (Some Spaces) padded form b = Some Spaces
padding_after (Some Circumflexes) padded form b = last_padding padded form b
padding_after None padded form b = last_padding padded form b

-- a record of circumflexes counts if this is so, and any other padding in any case
abbrev pub padding_if : Bool → Option Padding → Option Padding
padding_if true padding = padding
padding_if false (Some Circumflexes) = None
padding_if false padding = padding

-- the padding of a complete section: a record of circumflexes counts only at the end of a file
-- whose blocks are in its format
abbrev pub padding_in : Fit → Entry → Option Padding
padding_in fit entry = padding_if (entry.eof && not (is_some fit.misfit)) fit.padding

-- the name of padding in rows and records
abbrev pub padding_text : Padding → List ℕ
padding_text Nuls = codes "NUL"
padding_text Spaces = codes "SPACE"
padding_text Circumflexes = codes "CIRCUMFLEX"
