-- Records in EBCDIC, translated while they are written.
use Rattle.std.specs.Prelude.{◌≡◌, ℕ, zero, suc, ◌+◌, ◌*◌, ◌==◌, List, [], ◌∷◌, ◌++◌, map}
use Rattle.std.specs.Prelude.{if◌then◌else◌, Option, Some, None, slice_index}
use Rattle.std.specs.Io.KnownBytes.{Appends}
use Rattle.tape_core.specs.NormalForm.Codes.{to_ascii}
use Rattle.tape_blocks.specs.{Block.Portion, Spans.join, declared.parts.Form.Form}
use Rattle.tape_blocks.specs.declared.parts.Form.TheVariants.{Counted}
use Rattle.tape_run.specs.RecordText.{record_head, record_end, records_text, output_of}

-- the number in four bytes, the most significant first
abbrev pub number_of : ℕ → ℕ → ℕ → ℕ → ℕ
number_of a b c d = ((a * 256 + b) * 256 + c) * 256 + d

-- the number in the first four bytes
abbrev pub number_at : List ℕ → ℕ
number_at bytes = number_of (slice_index bytes 0) (slice_index bytes 1) (slice_index bytes 2)
    (slice_index bytes 3)

-- the terminator of a record of which this many bytes are still to come
abbrev pub due_end : Form → ℕ → List ℕ
due_end form left = if left == 0 then record_end form else []

-- what is written in the form for bytes of the counted form, of which the first ones, so many, are
-- the rest of a record
abbrev pub spelled : Form → ℕ → List ℕ → List ℕ
spelled form (suc left) (b ∷ bytes) =
    to_ascii b ∷ (due_end form left ++ spelled form left bytes)
spelled form zero (a ∷ b ∷ c ∷ d ∷ bytes) =
    record_head form (number_of a b c d)
    ++ (due_end form (number_of a b c d) ++ spelled form (number_of a b c d) bytes)
spelled form left bytes = []

-- how many bytes of the last record are still to come after them, if they do not end in a length
abbrev pub left_after : ℕ → List ℕ → Option ℕ
left_after left [] = Some left
left_after (suc left) (b ∷ bytes) = left_after left bytes
left_after zero (a ∷ b ∷ c ∷ d ∷ bytes) = left_after (number_of a b c d) bytes
left_after zero bytes = None

-- what is written for these bytes: without a form they themselves
abbrev pub written_for : Option Form → ℕ → List ℕ → List ℕ
written_for None left bytes = bytes
written_for (Some form) left bytes = spelled form left bytes

abbrev pub left_by : Option Form → ℕ → List ℕ → Option ℕ
left_by None left bytes = Some left
left_by (Some form) left bytes = left_after left bytes

-- these bytes are accepted, `left` of a record being still to come, and `new_left` behind them
abbrev pub IsTaken : Option Form → ℕ → List ℕ → Option (List ℕ) → Option (List ℕ) → ℕ → Type 0
IsTaken form left bytes old new new_left = Appends old new (written_for form left bytes)
    × (left_by form left bytes ≡ Some new_left)

-- What is written for bytes in two goes is what is written for all of them.
abbrev pub TranslatesInTurn : Type 0
TranslatesInTurn = (form : Form) (left middle : ℕ) (xs ys : List ℕ)
    → left_after left xs ≡ Some middle
    → spelled form left (xs ++ ys) ≡ spelled form left xs ++ spelled form middle ys

-- What is written for a file in the counted form are its records in the form, each of them with its
-- characters translated.
abbrev pub TranslatesRecords : Type 0
TranslatesRecords = (form : Form) (parts : List Portion) → spelled form 0 (output_of Counted parts)
    ≡ records_text form (map (map to_ascii) (join parts).records)
