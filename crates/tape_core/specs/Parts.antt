-- The block whose first parts were delivered: whether a record is unfinished at its start, and
-- after these parts.
use Rattle.std.specs.Prelude.{ℕ, zero, suc, nat_le, ◌||◌, not, Bool, false, List, [], ◌∷◌, length}
use Rattle.std.specs.Prelude.{take, drop, Option, Some, None}
use Rattle.tape_label.specs.declared.values.Format.{Format}
use Rattle.tape_label.specs.declared.values.Format.TheVariants.{Fixed, Counted, Spanned}
use Rattle.tape_label.specs.declared.values.Format.TheVariants.{Undefined, Variable}
use Rattle.tape_blocks.specs.{declared.parts.Span.Span, Block.Portion, Block.span_by}
use Rattle.tape_blocks.specs.Block.{span_coded, own_len, own_offset}
use Rattle.tape_blocks.specs.{Spans.continues, Faults.bool_eq, Judged.begun_behind, Parts.parts_of}
use Rattle.tape_set.specs.Lawful.{FileForm}

-- whether a unit with the given indicator continues a record
abbrev pub goes_on_by : Option Span → Bool
goes_on_by None = false
goes_on_by (Some span) = continues span

abbrev pub first_goes_on : List ℕ → Bool
first_goes_on [] = false
first_goes_on (c ∷ cs) = goes_on_by (span_by c)

-- the same, according to the code in its record descriptor word
abbrev pub word_goes_on : List ℕ → Bool
word_goes_on (a ∷ b ∷ c ∷ d ∷ bytes) = goes_on_by (span_coded c d)
word_goes_on _ = false

-- whether the first unit of the block continues a record, according to its indicator or code, which
-- only formats S and V have
abbrev pub goes_on_at : Format → ℕ → List ℕ → Bool
goes_on_at Fixed offset block = false
goes_on_at Counted offset block = false
goes_on_at Spanned offset block = first_goes_on (drop offset block)
goes_on_at Undefined offset block = false
goes_on_at Variable offset block =
    word_goes_on (drop (own_offset Variable offset block) block)

-- the parts of the units of a block
abbrev pub parts_in : FileForm → List ℕ → List Portion
parts_in form block =
    parts_of form.format (own_len form.format form.rec_len form.offset block)
    (drop (own_offset form.format form.offset block) block)

-- whether a record is unfinished at the start of the block, after the given number of its parts
-- were delivered; `begun` says whether a record is unfinished before the next part
abbrev pub begun_before : FileForm → ℕ → Bool → List ℕ → Bool
begun_before form zero begun block = begun
begun_before form (suc part) begun block = goes_on_at form.format form.offset block

-- whether the block differs from the one of which the given number of parts were delivered: it has
-- no further part, or the state of the record after them is not `begun`
abbrev pub other_front : FileForm → ℕ → Bool → List ℕ → Bool
other_front form zero begun block = false
other_front form (suc part) begun block =
    nat_le (length (parts_in form block)) (suc part)
    || not (bool_eq (begun_behind (goes_on_at form.format form.offset block)
    (take (suc part) (parts_in form block))) begun)
