-- The results of the reading functions, as functions of a block: the fields, or the fault of the
-- first test that fails. The tests are in the order of the lines.
use Rattle.std.specs.Prelude.{ℕ, ◌-◌, ◌==◌, nat_lt, ◌||◌, List, length, codes, slice_index, Bool}
use Rattle.std.specs.Prelude.{true, false, if◌then◌else◌, Result, Ok, Err}
use Rattle.std.specs.Str.{bytes_eq, all_ascii_digits}
use Rattle.tape_label.specs.{declared.label.LabelFault.LabelFault, declared.values.Kind.Kind}
use Rattle.tape_label.specs.{declared.values.Format.Format, declared.values.Vol1.Vol1}
use Rattle.tape_label.specs.declared.values.Format.TheVariants.{Fixed, Counted, Spanned}
use Rattle.tape_label.specs.declared.values.Format.TheVariants.{Undefined, Variable}
use Rattle.tape_label.specs.{declared.values.Head1.Head1, declared.values.Head2.Head2}
use Rattle.tape_label.specs.{declared.values.Trail1.Trail1, Digits.number_of, Kinds.identifier}
use Rattle.tape_label.specs.{Formats.letter, Formats.least_record, Positions.positions}
use Rattle.tape_label.specs.declared.label.LabelFault.TheVariants as faults
use Rattle.tape_label.specs.declared.values.Kind.TheVariants as kinds

-- the next step, unless a step has failed already
infixl 10 ◌>>=◌
abbrev pub ◌>>=◌ : {A B : Type 0} → Result A LabelFault → (A → Result B LabelFault)
    → Result B LabelFault
(Ok x) >>= f = f x
(Err e) >>= f = Err e

-- the block has 80 characters
abbrev pub eighty : List ℕ → Result (Unit {0}) LabelFault
eighty label = if length label == 80 then Ok tt else Err faults.NotEighty

-- whether the block begins with the identifier of the given kind
abbrev pub begins_as : List ℕ → Kind → Bool
begins_as label kind = bytes_eq (positions label 1 4) (identifier kind)

-- a fault if the block does not begin with the identifier of the given kind
abbrev pub of_kind : List ℕ → Kind → Result (Unit {0}) LabelFault
of_kind label kind = if begins_as label kind then Ok tt else Err faults.Identifier

-- the character at a position, counted from 1
abbrev pub character_at : List ℕ → ℕ → ℕ
character_at label position = slice_index label (position - 1)

-- the decimal number at the given positions, which must be at least `least`
abbrev pub number_at : List ℕ → ℕ → ℕ → ℕ → Result ℕ LabelFault
number_at label first last least =
    let ds = positions label first last
    in if all_ascii_digits ds
    then (if nat_lt (number_of ds) least then Err (faults.FieldRange first) else Ok (number_of ds))
    else Err (faults.NotDigits first)

-- ---- the volume label

-- the fields of a volume label, at their positions
abbrev pub vol1_fields : List ℕ → Vol1
vol1_fields label = record {
  volume = positions label 5 10;
  access = character_at label 11;
  implementation = positions label 25 37;
  owner = positions label 38 51;
  version = character_at label 80;
}

-- checks: 80 characters, and the identifier
unfoldable pub vol1_at : List ℕ → Result Vol1 LabelFault
vol1_at label = do
  _ ← eighty label
  _ ← of_kind label kinds.Vol1
  Ok (vol1_fields label)

-- ---- first header and trailer labels

-- the fields of a first label, with the given section and sequence number
abbrev pub head_fields : List ℕ → ℕ → ℕ → Head1
head_fields label sect sequence = record {
  file_id = positions label 5 21;
  set_id = positions label 22 27;
  sect = sect;
  sequence = sequence;
  generation = positions label 36 39;
  gen_version = positions label 40 41;
  created = positions label 42 47;
  expires = positions label 48 53;
  access = character_at label 54;
  implementation = positions label 61 73;
}

-- the fields that first labels share: the two numbers are checked, in this order
unfoldable pub head_at : List ℕ → Result Head1 LabelFault
head_at label = do
  sect ← number_at label 28 31 1
  sequence ← number_at label 32 35 1
  Ok (head_fields label sect sequence)

-- checks: 80 characters, the identifier, and the numbers
unfoldable pub head1_at : List ℕ → Result Head1 LabelFault
head1_at label = do
  _ ← eighty label
  _ ← of_kind label kinds.Hdr1
  head_at label

-- whether the label is at the end of the file
unfoldable pub end_at : List ℕ → Result Bool LabelFault
end_at label =
    if begins_as label kinds.Eof1 then Ok true
    else (if begins_as label kinds.Eov1 then Ok false else Err faults.Identifier)

-- checks: 80 characters, the identifier, the numbers, and the block count
unfoldable pub trail1_at : List ℕ → Result Trail1 LabelFault
trail1_at label = do
  _ ← eighty label
  eof ← end_at label
  head ← head_at label
  blocks ← number_at label 55 60 0
  Ok record { eof = eof; head = head; blocks = blocks }

-- ---- second header and trailer labels

-- a fault if the block does not begin with the identifier of one of the three second labels
abbrev pub second : List ℕ → Result (Unit {0}) LabelFault
second label =
    if begins_as label kinds.Hdr2 || begins_as label kinds.Eof2 || begins_as label kinds.Eov2
    then Ok tt else Err faults.Identifier

-- the record format whose letter is at position 5
unfoldable pub format_at : List ℕ → Result Format LabelFault
format_at label =
    let c = character_at label 5
    in if c == letter Fixed then Ok Fixed
    else (if c == letter Counted then Ok Counted
    else (if c == letter Spanned then Ok Spanned else Err (faults.Format c)))

-- the buffer offset; two spaces are read as 0
unfoldable pub offset_at : List ℕ → Result ℕ LabelFault
offset_at label =
    if bytes_eq (positions label 51 52) (codes "  ") then Ok 0 else number_at label 51 52 0

-- checks: 80 characters, the identifier, and the fields in the order of their positions
unfoldable pub head2_at : List ℕ → Result Head2 LabelFault
head2_at label = do
  _ ← eighty label
  _ ← second label
  format ← format_at label
  block_len ← number_at label 6 10 0
  rec_len ← number_at label 11 15 (least_record format)
  offset ← offset_at label
  Ok record { format = format; block_len = block_len; rec_len = rec_len; offset = offset }

-- ---- second labels in the wider reading

-- the record format whose letter is at position 5, which may be `U` or `V`
unfoldable pub wide_format_at : List ℕ → Result Format LabelFault
wide_format_at label =
    let c = character_at label 5
    in if c == letter Undefined then Ok Undefined
    else (if c == letter Variable then Ok Variable else format_at label)

-- a length that no block depends on; five spaces are read as 0
unfoldable pub number_or_spaces : List ℕ → ℕ → ℕ → Result ℕ LabelFault
number_or_spaces label first last =
    if bytes_eq (positions label first last) (codes "     ") then Ok 0
    else number_at label first last 0

-- the record length, which only blocks of format F depend on
abbrev pub rec_len_at : Format → List ℕ → Result ℕ LabelFault
rec_len_at Fixed label = number_at label 11 15 1
rec_len_at _ label = number_or_spaces label 11 15

-- checks: 80 characters, the identifier, and the fields in the order of their positions
unfoldable pub wide_head2_at : List ℕ → Result Head2 LabelFault
wide_head2_at label = do
  _ ← eighty label
  _ ← second label
  format ← wide_format_at label
  block_len ← number_or_spaces label 6 10
  rec_len ← rec_len_at format label
  offset ← offset_at label
  Ok record { format = format; block_len = block_len; rec_len = rec_len; offset = offset }
