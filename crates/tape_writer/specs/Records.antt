-- The records of an input.
use Rattle.std.specs.Prelude.{Bool, [], length, true, ℕ, ◌++◌, ◌+◌, if◌then◌else◌, List, Option}
use Rattle.std.specs.Prelude.{false, ◌-◌, ◌<◌, ◌∷◌, ◌≡◌, ◌==◌}
use Rattle.std.specs.Io.KnownBytes.{prepend_known}
use Rattle.tape_label.specs.{declared.values.Format.TheVariants.Counted}
use Rattle.tape_label.specs.{declared.values.Format.TheVariants.Spanned}
use Rattle.tape_label.specs.{declared.values.Format.TheVariants.Fixed}
use Rattle.tape_label.specs.{declared.values.Format.Format}
use Rattle.tape_label.specs.declared.values.Format.TheVariants.{Undefined, Variable}
use Rattle.tape_blocks.specs.declared.parts.Shape.{Shape}
use Rattle.tape_writer.specs.{declared.inputs.cut.Cut.TheVariants.Length}
use Rattle.tape_writer.specs.{declared.inputs.cut.Cut.TheVariants.Lines}
use Rattle.tape_writer.specs.{declared.inputs.cut.Cut.TheVariants.Whole}
use Rattle.tape_writer.specs.{declared.inputs.records.Records.Records, declared.inputs.cut.Cut.Cut}

-- The maximum length of a record, by format and record length. In format D the record length
-- includes the four digits.
abbrev pub longest_by : Format → ℕ → ℕ
longest_by Fixed rec_len = rec_len
longest_by Counted rec_len = rec_len - 4
longest_by Spanned rec_len = 4294967295
longest_by Undefined rec_len = 0
longest_by Variable rec_len = 0

-- the maximum length of a record of a shape
abbrev pub longest : Shape → ℕ
longest shape = longest_by shape.format shape.rec_len

-- whether the byte ends the record before it, and is not part of the record
abbrev pub ends_before : Cut → ℕ → Bool
ends_before Lines byte = byte == 10
ends_before (Length n) byte = false
ends_before Whole byte = false

-- whether a record of the given length is complete
abbrev pub is_full : Cut → ℕ → Bool
is_full Lines n = false
is_full (Length m) n = n == m
is_full Whole n = false

-- The record of the bytes left at the end of an input. If the input is cut, no bytes are not a
-- record.
abbrev pub last_record : Cut → List ℕ → List (List ℕ)
last_record Whole r = r ∷ []
last_record Lines [] = []
last_record Lines (b ∷ r) = (b ∷ r) ∷ []
last_record (Length n) [] = []
last_record (Length n) (b ∷ r) = (b ∷ r) ∷ []

-- the records of further bytes after the bytes r of an unfinished record
abbrev pub records_from : Cut → List ℕ → List ℕ → List (List ℕ)
records_from cut r [] = last_record cut r
records_from cut r (b ∷ bs) =
    if ends_before cut b then r ∷ records_from cut [] bs
    else (if is_full cut (length r + 1) then (r ++ b ∷ []) ∷ records_from cut [] bs
    else records_from cut (r ++ b ∷ []) bs)

-- the records of an input
abbrev pub records_of : Cut → List ℕ → List (List ℕ)
records_of cut bytes = records_from cut [] bytes

-- the records to come, if the end of the input was not reached
abbrev pub to_come : Cut → Bool → List ℕ → List (List ℕ)
to_come cut over bytes = if over then [] else records_of cut bytes

-- a record and the rest, or only the rest
abbrev pub given : Bool → List ℕ → List (List ℕ) → List (List ℕ)
given true r rs = r ∷ rs
given false r rs = rs

-- the bytes, after the bytes `old` of a record, end the record (true) or continue it
abbrev pub Adds : Cut → List ℕ → List ℕ → List ℕ → Bool → Type 0
Adds cut old bytes new true = (more : List ℕ)
    → records_from cut old (bytes ++ more) ≡ new ∷ records_from cut [] more
Adds cut old bytes new false = (more : List ℕ)
    → records_from cut old (bytes ++ more) ≡ records_from cut new more

-- the bytes left in an input: the bytes read ahead, and then those of its reader
abbrev pub left_of : {R : Type 0} → (R → Option (List ℕ)) → Records R → Option (List ℕ)
left_of remaining records = prepend_known records.ahead (remaining records.device)

-- the first of the records is longer than `most`
abbrev pub IsFirstLong : ℕ → List (List ℕ) → Type 0
IsFirstLong most [] = ⊥
IsFirstLong most (r ∷ rs) = most < length r

-- whatever follows the bytes, the record that begins with r is longer than `most`
abbrev pub GrowsLong : ℕ → Cut → List ℕ → List ℕ → Type 0
GrowsLong most cut r bytes = (more : List ℕ) → IsFirstLong most (records_from cut r (bytes ++ more))
