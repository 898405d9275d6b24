-- The form of a file, known from its labels, and the ranges of a checkpoint's numbers.
use Rattle.std.specs.Prelude.{◌≡◌, ℕ, ◌≤◌, List, Bool, true, false, not, Option, Some, None}
use Rattle.std.specs.Prelude.{is_some}
use Rattle.tape_label.specs.{declared.values.Format.Format, Formats.least_record}
use Rattle.tape_label.specs.declared.values.Format.TheVariants.{Fixed, Counted, Spanned}
use Rattle.tape_label.specs.declared.values.Format.TheVariants.{Undefined, Variable}
use Rattle.tape_blocks.specs.Packing.{longest_block}
use Rattle.tape_set.specs.{declared.position.Position.Position, Position.is_start}
use Rattle.tape_set.specs.declared.position.Position.TheVariants.{Awaits, Finished}
use Rattle.tape_set.specs.Lawful.{FileForm, binding_len, most_blocks}

-- The numbers are possible in a second label; the record length matters only in format F, and is 0
-- in the other formats.
pub record IsForm (format : Format) (rec_len offset : ℕ) : Type 0 where
  pub least : least_record format ≤ rec_len
  pub binding : binding_len format rec_len ≡ rec_len
  pub len_fits : rec_len ≤ longest_block
  pub offset_fits : offset ≤ 99

-- the form of a file with the given values
abbrev pub known_of : Format → ℕ → ℕ → List ℕ → FileForm
known_of format rec_len offset file_id =
    record { file_id = file_id; format = format; rec_len = rec_len; offset = offset }

-- whether records may continue in the next block
abbrev pub is_spanned : Format → Bool
is_spanned Fixed = false
is_spanned Counted = false
is_spanned Spanned = true
is_spanned Undefined = false
is_spanned Variable = true

-- whether records of the file may continue in the next block; false if the form is unknown
abbrev pub may_span : Option FileForm → Bool
may_span None = false
may_span (Some form) = is_spanned form.format

-- the numbers of a position are in range: sections from 1 to 9,999, blocks up to 4,294,967,295,
-- parts up to 99,999
abbrev pub PositionFits : Position → Type 0
PositionFits (Awaits sect block part) = (1 ≤ sect) × (sect ≤ 9999) × (block ≤ most_blocks)
    × (part ≤ longest_block)
PositionFits Finished = Unit {0}

-- whether the file is complete
abbrev pub is_finished : Position → Bool
is_finished (Awaits sect block part) = false
is_finished Finished = true

-- Valid positions of a reader: the form is known exactly if the position is not the start of the
-- file, and a record is unfinished only if records may continue in the next block, and never at the
-- end of the file.
pub record StandFits (position : Position) (begun : Bool) (known : Option FileForm) : Type 0 where
  pub numbers : PositionFits position
  pub tells : is_some known ≡ not (is_start position)
  pub spans : begun ≡ true → may_span known ≡ true
  pub whole : is_finished position ≡ true → begun ≡ false

-- files are numbered from 1 to 9,999
abbrev pub IsFileNumber : ℕ → Type 0
IsFileNumber file = (1 ≤ file) × (file ≤ 9999)

-- the greatest weight of staged parts
abbrev pub most_staged : ℕ
most_staged = 999999999999999
