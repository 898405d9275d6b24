-- Readers and labels for the mistakes, and proofs that they can exist.
use Rattle.std.proofs.Common.{ℕ, false, codes, Some, None}
use Rattle.tape_label.specs.{declared.values.Format.TheVariants.Fixed, declared.values.Head1.Head1}
use Rattle.tape_set.specs.{declared.position.Position.Position, Lawful.FileForm}
use Rattle.tape_set.specs.declared.position.Position.TheVariants.{Awaits}
use Rattle.tape_core.specs.{declared.event.Heading.Heading, declared.event.Phase.Phase, State.State}

-- ---- readers and labels, written out

-- the form of a file of format F, with records of four characters
abbrev pub fixed : FileForm
fixed = record {
  file_id = codes "PAYROLL          ";
  format = Fixed;
  rec_len = 4;
  offset = 0;
}

-- a reader of file 1 at its start
abbrev pub at_start : Phase → State
at_start phase = record {
  set_id = codes "ABC001";
  file = 1;
  position = Awaits 1 0 0;
  begun = false;
  known = None;
  phase = phase;
}

-- a reader inside file 1, with no unfinished record
abbrev pub inside : Position → Phase → State
inside position phase = record (at_start phase) { position = position; known = Some fixed }

-- the header of a first section
abbrev pub headed : Heading
headed = record { sequence = 1; sect = 1; file_id = codes "PAYROLL          " }

-- an HDR1 of the given section of file 1
abbrev pub head : ℕ → Head1
head sect = record {
  file_id = codes "PAYROLL          ";
  set_id = codes "ABC001";
  sect = sect;
  sequence = 1;
  generation = codes "0001";
  gen_version = codes "00";
  created = codes " 00000";
  expires = codes " 00000";
  access = 32;
  implementation = codes "             ";
}
