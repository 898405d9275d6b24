-- The numbers in a label.
use Rattle.std.specs.Prelude.{ℕ, Option, Some, None, Result, Ok, Err}
use Rattle.tape_label.specs.{declared.label.Label.Label, declared.label.LabelFault.LabelFault}
use Rattle.tape_label.specs.declared.label.LabelFault.TheVariants.{NotDigits, FieldRange}
use Rattle.tape_label.specs.declared.values.Kind.TheVariants.{Vol1, Hdr1, Hdr2, Eof1, Eof2, Eov1}
use Rattle.tape_label.specs.{declared.values.Kind.Kind, declared.values.Kind.TheVariants.Eov2}
use Rattle.tape_label.specs.{Faults.number, Formats.letter}
use Rattle.tape_label.specs.declared.label.Label.TheVariants as labels
use Rattle.tape_c.specs.declared.label.LabelFields.{LabelFields}

-- the number of a kind of label, or 0
abbrev pub kind_number : Option Kind → ℕ
kind_number None = 0
kind_number (Some Vol1) = 1
kind_number (Some Hdr1) = 2
kind_number (Some Hdr2) = 3
kind_number (Some Eof1) = 4
kind_number (Some Eof2) = 5
kind_number (Some Eov1) = 6
kind_number (Some Eov2) = 7

-- the position of the number that is at fault, or 0
abbrev pub fault_position : LabelFault → ℕ
fault_position (NotDigits position) = position
fault_position (FieldRange position) = position
fault_position _ = 0

-- the kind alone
abbrev pub of_kind : Option Kind → LabelFields
of_kind kind = record {
  kind = kind_number kind;
  fault = 0;
  position = 0;
  section = 0;
  sequence = 0;
  blocks = 0;
  format = 0;
  block_length = 0;
  record_length = 0;
  offset = 0;
}

-- the numbers of a block of this kind that was read, or could not be read, as a label
abbrev pub fields_of : Option Kind → Result Label LabelFault → LabelFields
fields_of kind (Ok (labels.Vol1 _)) = of_kind kind
fields_of kind (Ok (labels.Head1 head)) = record (of_kind kind) {
  section = head.sect;
  sequence = head.sequence;
}
fields_of kind (Ok (labels.Second _ form)) = record (of_kind kind) {
  format = letter form.format;
  block_length = form.block_len;
  record_length = form.rec_len;
  offset = form.offset;
}
fields_of kind (Ok (labels.Trail1 trail)) = record (of_kind kind) {
  section = trail.head.sect;
  sequence = trail.head.sequence;
  blocks = trail.blocks;
}
fields_of kind (Err fault) = record (of_kind kind) {
  fault = number fault;
  position = fault_position fault;
}
