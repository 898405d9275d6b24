-- How blocks are read as labels, and how labels are compared.
use Rattle.std.specs.Prelude.{ℕ, ◌==◌, ◌&&◌, not, Bool, false, List, Option}
use Rattle.std.specs.{Prelude.Some, Prelude.None, Str.bytes_eq}
use Rattle.tape_label.specs.{declared.values.Head1.Head1, declared.values.Head2.Head2}
use Rattle.tape_label.specs.{Formats.letter}
use Rattle.tape_set.specs.Lawful.{FileForm, binding_len}
use Rattle.tape_core.specs.declared.event.Heading.{Heading}

-- the fields of an HDR1 that are remembered while its section is read
abbrev pub heading_of : Head1 → Heading
heading_of h = record { sequence = h.sequence; sect = h.sect; file_id = h.file_id }

-- the form of the file that the labels of a section state
abbrev pub form_at : Heading → Head2 → FileForm
form_at heading g =
    record {
      file_id = heading.file_id;
      format = g.format;
      rec_len = binding_len g.format g.rec_len;
      offset = g.offset;
    }

-- the form is known and has another file identifier
abbrev pub other_file_id : Option FileForm → List ℕ → Bool
other_file_id None file_id = false
other_file_id (Some known) file_id = not (bytes_eq known.file_id file_id)

-- the record format, the record length (in format F) and the offset are the same
abbrev pub same_shape : FileForm → FileForm → Bool
same_shape a b = (letter a.format == letter b.format) && (a.rec_len == b.rec_len)
    && (a.offset == b.offset)

-- the form is known and has another format, record length or offset
abbrev pub other_shape : Option FileForm → FileForm → Bool
other_shape None form = false
other_shape (Some known) form = not (same_shape known form)
