-- The values that `write` derives from its arguments: the shape of all files, each file's head, and
-- its path.
use Rattle.std.specs.Prelude.{◌≡◌, ◌≢◌, ◌⊎◌, ℕ, zero, suc, ◌+◌, ◌-◌, min, Bool, true, List, [], ◌∷◌}
use Rattle.std.specs.Prelude.{codes, map, replicate, Option, Some, None}
use Rattle.tape_label.specs.{declared.values.Format.Format, declared.values.Head1.Head1}
use Rattle.tape_label.specs.declared.values.Format.TheVariants.{Fixed, Counted, Spanned}
use Rattle.tape_label.specs.declared.values.Format.TheVariants.{Undefined, Variable}
use Rattle.tape_writer.specs.{Coded.ebcdic_table}
use Rattle.tape_core.specs.{NormalForm.Codes.to_ascii}
use Rattle.tape_run.specs.{Dates.date_of, Dates.day_text, declared.survey.dates.Date.Date}

-- The record length: the number that was specified. Without one it is, with D, the greatest that
-- fits into a block, at most 9,999, and otherwise 0.
abbrev pub record_length : Format → Option ℕ → ℕ → ℕ → ℕ
record_length format (Some length) block offset = length
record_length Fixed None block offset = 0
record_length Counted None block offset = min (block - offset) 9999
record_length Spanned None block offset = 0
record_length Undefined None block offset = 0
record_length Variable None block offset = 0

-- There is no such shape: only blocks of D are padded, and a record of format F has at least one
-- byte.
abbrev pub IsNoShape : Format → ℕ → Bool → Type 0
IsNoShape format length pad_full =
    ((pad_full ≡ true) × (format ≢ Counted)) ⊎ ((format ≡ Fixed) × (length ≡ 0))

-- The six characters of a label are this day, which is written as 1985-04-23.
abbrev pub IsDay : List ℕ → List ℕ → Type 0
IsDay text field = (date : Date) × (date_of field ≡ Some date) × (text ≡ day_text date)

-- A file's head before the writer fills in the set and the numbers: its identifier, generation 1 in
-- its first version, its date, no date of expiry, free for all. 32 is the space.
abbrev pub plain_head : List ℕ → List ℕ → Head1
plain_head file_id created = record {
  file_id = file_id;
  set_id = replicate 6 32;
  sect = 1;
  sequence = 1;
  generation = codes "0001";
  gen_version = codes "00";
  created = created;
  expires = codes " 00000";
  access = 32;
  implementation = replicate 13 32;
}

-- so many numbers, from n on
abbrev pub numbers_from : ℕ → ℕ → List ℕ
numbers_from n zero = []
numbers_from n (suc count) = n ∷ numbers_from (n + 1) count

-- each byte is read as the character that it was written for
abbrev pub EbcdicIsRead : Type 0
EbcdicIsRead = map to_ascii ebcdic_table ≡ numbers_from 0 256
