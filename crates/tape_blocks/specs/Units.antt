-- The unit at the start of some bytes, or why no unit begins there: the result of one step of the
-- walk over a block.
use Rattle.std.specs.Prelude.{ℕ, ◌-◌, ◌==◌, ◌||◌, nat_lt, max, not, List, [], ◌∷◌, length, take}
use Rattle.std.specs.Prelude.{drop, Option}
use Rattle.std.specs.Prelude.{Some, None, Result, Ok, Err, if◌then◌else◌, slice_index}
use Rattle.std.specs.Str.{all_ascii_digits}
use Rattle.tape_label.specs.{Digits.number_of, declared.values.Format.Format}
use Rattle.tape_label.specs.declared.values.Format.TheVariants.{Fixed, Counted, Spanned}
use Rattle.tape_label.specs.declared.values.Format.TheVariants.{Undefined, Variable}
use Rattle.tape_blocks.specs.declared.check.BlockCause.TheVariants.{NotMultiple, BadCount, PastEnd}
use Rattle.tape_blocks.specs.declared.check.BlockCause.TheVariants.{BadIndicator, BadPadding}
use Rattle.tape_blocks.specs.{declared.check.BlockFault.BlockFault, declared.parts.Span.Span}
use Rattle.tape_blocks.specs.{declared.parts.Span.TheVariants.Whole, declared.check.Found.Found}
use Rattle.tape_blocks.specs.{Block.first_other, Block.span_by, Block.span_coded, Faults.fault}
use Rattle.tape_blocks.specs.Faults.{word_of, are_bytes}

-- no unit, if all bytes are circumflexes
abbrev pub padding_by : Option ℕ → Result (Option Found) BlockFault
padding_by None = Ok None
padding_by (Some place) = Err (fault place BadPadding)

-- no unit, if the remaining bytes in format F are all circumflexes
abbrev pub short_by : Option ℕ → Result (Option Found) BlockFault
short_by None = Ok None
short_by (Some place) = Err (fault 0 NotMultiple)

-- a unit whose head ends with a four-digit count of the whole unit
abbrev pub counted : Span → ℕ → List ℕ → Result (Option Found) BlockFault
counted span head bytes =
    let count = take 4 (drop (head - 4) bytes)
    in if nat_lt (length bytes) head then Err (fault 0 BadCount)
    else (if not (all_ascii_digits count) then Err (fault 0 BadCount)
    else (if nat_lt (number_of count) head then Err (fault 0 BadCount)
    else (if nat_lt (length bytes) (number_of count) then Err (fault 0 PastEnd)
    else Ok (Some record { span = span; head = head; len = number_of count }))))

-- a unit of format S, by the indicator in its first byte
abbrev pub spanned : Option Span → List ℕ → Result (Option Found) BlockFault
spanned None bytes = Err (fault 0 BadIndicator)
spanned (Some span) bytes = counted span 5 bytes

-- a unit of format V with the span and the length in its record descriptor word
abbrev pub described : Option Span → ℕ → List ℕ → Result (Option Found) BlockFault
described None len bytes = Err (fault 0 BadIndicator)
described (Some span) len bytes =
    if nat_lt len 4 then Err (fault 0 BadCount)
    else (if nat_lt (length bytes) len then Err (fault 0 PastEnd)
    else Ok (Some record { span = span; head = 4; len = len }))

-- the unit of format V at the start of the bytes
abbrev pub word_unit : List ℕ → Result (Option Found) BlockFault
word_unit bytes =
    if nat_lt (length bytes) 4 || not (are_bytes bytes)
    then Err (fault 0 BadCount)
    else described (span_coded (slice_index bytes 2) (slice_index bytes 3)) (word_of bytes) bytes

-- the unit at the start of the bytes, or `None` at the padding
unfoldable pub unit_at : Format → ℕ → List ℕ → Result (Option Found) BlockFault
unit_at Fixed rec_len bytes =
    if nat_lt (length bytes) rec_len then short_by (first_other bytes)
    else Ok (Some record { span = Whole; head = 0; len = rec_len })
unit_at Counted rec_len [] = Ok None
unit_at Counted rec_len (c ∷ cs) =
    if c == 94 then padding_by (first_other (c ∷ cs)) else counted Whole 4 (c ∷ cs)
unit_at Spanned rec_len [] = Ok None
unit_at Spanned rec_len (c ∷ cs) =
    if c == 94 then padding_by (first_other (c ∷ cs)) else spanned (span_by c) (c ∷ cs)
unit_at Undefined rec_len [] = Ok None
unit_at Undefined rec_len (c ∷ cs) =
    if nat_lt (length (c ∷ cs)) (max 1 rec_len) then Err (fault 0 NotMultiple)
    else Ok (Some record { span = Whole; head = 0; len = max 1 rec_len })
unit_at Variable rec_len [] = Ok None
unit_at Variable rec_len (c ∷ cs) = word_unit (c ∷ cs)
