-- The fields of a checkpoint's text, the checkpoint with given fields, and the rules that connect
-- the fields.
use Rattle.std.specs.Prelude.{if◌then◌else◌, replicate, Option, Some, None, is_some, nat_le, ◌==◌}
use Rattle.std.specs.{Prelude.◌&&◌, Prelude.not, Prelude.Bool, Str.bytes_eq}
use Rattle.tape_label.specs.declared.values.Format.{Format}
use Rattle.tape_set.specs.declared.position.Position.TheVariants.{Awaits, Finished}
use Rattle.tape_set.specs.Position.{sect_of, block_of, part_of}
use Rattle.tape_set.specs.{declared.position.Position.Position, Lawful.FileForm, Lawful.most_blocks}
use Rattle.tape_core.specs.{Known.is_finished, Point.Point, Range.form_in_range, Range.in_range}
use Rattle.tape_stage.specs.declared.{point.Place.Place, point.Form.Form, point.Fields.Fields}

-- ---- the fields of a checkpoint

-- the numbers of the block and the part, or zeros if the file is complete
abbrev pub place_of : Position → Place
place_of p = record { block = block_of p; part = part_of p }

-- the fields of the file's form, or spaces and zeros if the form is unknown
abbrev pub form_of : Option FileForm → Form
form_of None = record { format = None; rec_len = 0; offset = 0; file_id = replicate 17 32 }
form_of (Some form) = record {
  format = Some form.format;
  rec_len = form.rec_len;
  offset = form.offset;
  file_id = form.file_id;
}

-- the fields of a checkpoint
abbrev pub fields_of : Point → Fields
fields_of c = record {
  set_id = c.set_id;
  file = c.file;
  sect = sect_of c.position;
  place = place_of c.position;
  flags = record { done = is_finished c.position; begun = c.begun; known = is_some c.known };
  form = form_of c.known;
  staged = c.staged;
}

-- ---- the checkpoint of fields

-- the end of the file, or the part expected next
abbrev pub position_by : Fields → Position
position_by f = if f.flags.done then Finished else Awaits f.sect f.place.block f.place.part

-- the fields of the file's form, in a format
abbrev pub form_as : Form → Format → FileForm
form_as form format =
    record { file_id = form.file_id; format = format; rec_len = form.rec_len; offset = form.offset }

-- the form of the file, with the format in the text, or `None`
abbrev pub known_as : Form → Option Format → Option FileForm
known_as form None = None
known_as form (Some format) = Some (form_as form format)

-- the form of the file, or `None` if it is unknown
abbrev pub known_by : Form → Option FileForm
known_by form = known_as form form.format

-- the checkpoint with the given fields
abbrev pub point_by : Fields → Point
point_by f = record {
  set_id = f.set_id;
  file = f.file;
  position = position_by f;
  begun = f.flags.begun;
  known = known_by f.form;
  staged = f.staged;
}

-- ---- the rules that connect the fields

-- if the file is complete, the section, block and part are 0; otherwise the block number is
-- possible in a section
abbrev pub place_agrees : Fields → Bool
place_agrees f = if f.flags.done then (f.sect == 0) && (f.place.block == 0)
    && (f.place.part == 0) else nat_le f.place.block most_blocks

-- the fields of the file's form are empty
abbrev pub is_blank : Form → Bool
is_blank form = (form.rec_len == 0) && (form.offset == 0) && bytes_eq form.file_id (replicate 17 32)

-- a known form has numbers that are possible in its format; the fields of an unknown form are empty
abbrev pub form_agrees : Form → Bool → Option Format → Bool
form_agrees form known None = not known && is_blank form
form_agrees form known (Some format) = known && form_in_range (form_as form format)

-- the fields agree with one another, and are in the ranges of a checkpoint
abbrev pub is_right : Fields → Bool
is_right f = place_agrees f && form_agrees f.form f.flags.known f.form.format && in_range
    (point_by f)
