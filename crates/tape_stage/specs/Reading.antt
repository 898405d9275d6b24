-- The result of reading a checkpoint's text, as a function of the text: the checkpoint, or the
-- fault of the first test that fails, in the order of the lines.
use Rattle.std.specs.Prelude.{ℕ, ◌+◌, ◌-◌, ◌==◌, List, length, codes, replicate, drop, slice_range}
use Rattle.std.specs.Prelude.{slice_index, Bool, true, false, if◌then◌else◌, Option, Some, None}
use Rattle.std.specs.Prelude.{Result, Ok, Err, ◌&&◌}
use Rattle.std.specs.{Result.result_ok, Str.bytes_eq, Str.all_ascii_digits}
use Rattle.tape_label.specs.declared.values.Format.TheVariants.{Fixed, Counted, Spanned}
use Rattle.tape_label.specs.declared.values.Format.TheVariants.{Undefined, Variable}
use Rattle.tape_label.specs.{declared.values.Format.Format, Digits.number_of, Positions.positions}
use Rattle.tape_core.specs.Point.{Point}
use Rattle.tape_stage.specs.declared.point.Version.TheVariants.{One, Two}
use Rattle.tape_stage.specs.declared.point.text.PointFault.{PointFault}
use Rattle.tape_stage.specs.{declared.point.Version.Version, declared.point.Place.Place}
use Rattle.tape_stage.specs.{declared.point.Flags.Flags, declared.point.Form.Form}
use Rattle.tape_stage.specs.{declared.point.Fields.Fields, Fields.point_by, Fields.is_right}
use Rattle.tape_stage.specs.declared.point.text.PointFault.TheVariants as faults

-- the next step, unless a step has failed already
infixl 10 ◌>>=◌
abbrev pub ◌>>=◌ : {A B : Type 0} → Result A PointFault → (A → Result B PointFault)
    → Result B PointFault
(Ok x) >>= f = f x
(Err e) >>= f = Err e

-- the decimal number at the positions `first` to `last`
abbrev pub number_at : List ℕ → ℕ → ℕ → Result ℕ PointFault
number_at text first last = if all_ascii_digits (positions text first last) then Ok
    (number_of (positions text first last)) else Err (faults.Field first)

-- which of two characters is at the position
abbrev pub flag_at : List ℕ → ℕ → ℕ → ℕ → Result Bool PointFault
flag_at text position one other =
    let c = slice_index text (position - 1)
    in if c == one then Ok true else (if c == other then Ok false else Err (faults.Field position))

-- the record format at the position, or `None` for a space; `U` and `V` only if `wide` is true
abbrev pub format_at : Bool → List ℕ → ℕ → Result (Option Format) PointFault
format_at wide text position =
    let c = slice_index text (position - 1)
    in if c == 70 then Ok (Some Fixed) else (if c == 68 then Ok (Some Counted) else (if c
    == 83 then Ok (Some Spanned) else (if wide && (c == 85) then Ok (Some Undefined)
    else (if wide && (c == 86) then Ok (Some Variable)
    else (if c == 32 then Ok None else Err (faults.Field position))))))

-- spaces from the position `first` to the end
abbrev pub tail_at : List ℕ → ℕ → Result (Unit {0}) PointFault
tail_at text first = if bytes_eq (drop (first - 1) text)
    (replicate (81 - first) 32) then Ok tt else Err (faults.Field first)

-- the block and the part, which is 0 in version 1
unfoldable pub place_at : Version → List ℕ → Result Place PointFault
place_at One text = do
  block ← number_at text 20 25
  Ok record { block = block; part = 0 }
place_at Two text = do
  block ← number_at text 20 29
  part ← number_at text 30 34
  Ok record { block = block; part = part }

-- the letter for the state, and the two digits after it
unfoldable pub flags_at : List ℕ → ℕ → Result Flags PointFault
flags_at text first = do
  done ← flag_at text first 68 82
  begun ← flag_at text (first + 1) 49 48
  known ← flag_at text (first + 2) 49 48
  Ok record { done = done; begun = begun; known = known }

-- the fields of the file's form
unfoldable pub form_at : Bool → List ℕ → ℕ → Result Form PointFault
form_at wide text first = do
  format ← format_at wide text first
  rec_len ← number_at text (first + 1) (first + 5)
  offset ← number_at text (first + 6) (first + 7)
  Ok record {
    format = format;
    rec_len = rec_len;
    offset = offset;
    file_id = positions text (first + 8) (first + 24);
  }

-- the staged weight, and spaces to the end
unfoldable pub staged_at : List ℕ → ℕ → Result ℕ PointFault
staged_at text first = do
  staged ← number_at text first (first + 14)
  _ ← tail_at text (first + 15)
  Ok staged

-- the position of the letter for the state
abbrev pub state_position : Version → ℕ
state_position One = 26
state_position Two = 35

-- all fields after the version
unfoldable pub fields_at : Bool → Version → List ℕ → Result Fields PointFault
fields_at wide version text = do
  file ← number_at text 12 15
  sect ← number_at text 16 19
  place ← place_at version text
  flags ← flags_at text (state_position version)
  form ← form_at wide text (state_position version + 3)
  staged ← staged_at text (state_position version + 28)
  Ok record {
    set_id = positions text 6 11;
    file = file;
    sect = sect;
    place = place;
    flags = flags;
    form = form;
    staged = staged;
  }

-- the version with the given digit
abbrev pub version_by : ℕ → Result Version PointFault
version_by c = if c == 49 then Ok One else (if c == 50 then Ok Two else Err faults.Version)

-- the version and the fields
unfoldable pub text_at : Bool → List ℕ → Result (Version × Fields) PointFault
text_at wide text =
    if length text == 80
    then (if bytes_eq (slice_range text 0 4) (codes "TPCK")
    then (version_by (slice_index text 4) >>= λ version.
    fields_at wide version text >>= λ fields. Ok (version, fields))
    else Err faults.Mark)
    else Err faults.Length

-- ---- the complete result

-- the checkpoint with the given fields, if there is one
abbrev pub right_point : Fields → Result Point PointFault
right_point f = if is_right f then Ok (point_by f) else Err faults.Range

-- the result of reading a text: in the strict reading, or in the wider one, which also accepts the
-- formats U and V
unfoldable pub reading_by : Bool → List ℕ → Result Point PointFault
reading_by wide text = text_at wide text >>= λ read. right_point read.1

-- the result of the strict reading
abbrev pub reading : List ℕ → Result Point PointFault
reading text = reading_by false text

-- the result of the wider reading
abbrev pub wide_reading : List ℕ → Result Point PointFault
wide_reading text = reading_by true text

-- the checkpoint with the given text, in either version, or `None`
abbrev pub point_in : List ℕ → Option Point
point_in text = result_ok (wide_reading text)

-- the fixed numbers of the faults, in the order of the tests
abbrev pub number : PointFault → ℕ
number faults.Length = 1
number faults.Mark = 2
number faults.Version = 3
number (faults.Field position) = 4
number faults.Range = 5
