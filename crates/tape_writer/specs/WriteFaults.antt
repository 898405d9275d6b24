-- Why a set is not written from inputs: a fault that these definitions rule out is not returned.
use Rattle.std.specs.Prelude.{List, Option, length, IfErr, IfSome, None, Result, Some, [], ℕ, ◌+◌}
use Rattle.std.specs.Prelude.{◌∷◌, ◌≡◌, ◌⊎◌}
use Rattle.tape_label.specs.declared.values.Head1.{Head1}
use Rattle.tape_blocks.specs.{Packing.HasRecordLength, declared.parts.Shape.Shape}
use Rattle.tape_writer.specs.declared.fault.WriteFault.TheVariants.{BadShape, Device, RecordLength}
use Rattle.tape_writer.specs.Refusals.{IsNewFault, IsBeginFault, IsFinishFault, IsPutFault}
use Rattle.tape_writer.specs.{declared.fault.SetFault.TheVariants.ReadFailed}
use Rattle.tape_writer.specs.{declared.fault.SetFault.TheVariants.Write}
use Rattle.tape_writer.specs.{declared.fault.WriteFault.TheVariants.OutOfMemory}
use Rattle.tape_writer.specs.{declared.fault.WriteFault.WriteFault}
use Rattle.tape_writer.specs.{declared.inputs.records.InputFault.InputFault}
use Rattle.tape_writer.specs.{declared.inputs.set.SetPlan.SetPlan, declared.fault.SetFault.SetFault}
use Rattle.tape_writer.specs.{declared.inputs.cut.Cut.Cut, Records.records_of, Tapes.Failures}
use Rattle.tape_writer.specs.{Tapes.Rose, WriteSet.cut_of}
use Rattle.tape_writer.specs.declared.inputs.records.InputFault.TheVariants as inputs

-- the fault that is returned for the fault of an input
abbrev pub told_as : InputFault → SetFault
told_as inputs.ReadFailed = ReadFailed
told_as inputs.TooLong = Write RecordLength
told_as inputs.OutOfMemory = Write OutOfMemory

-- `Device` is returned only if the device of the tapes failed in the call
abbrev pub StopsByDevice : Failures → Result (Unit {0}) SetFault → Failures → Type 0
StopsByDevice old result new =
    IfErr result (λ fault. fault ≡ Write Device → Rose old.device new.device)

-- a record whose length the shape does not allow
abbrev pub IsOther : Shape → List ℕ → Type 0
IsOther shape r = HasRecordLength shape.format shape.rec_len (length r) → ⊥

-- a fault of an input: its reader failed, or a record has a wrong length
abbrev pub IsOfInput : SetFault → Type 0
IsOfInput ReadFailed = Unit {0}
IsOfInput (Write RecordLength) = Unit {0}
IsOfInput (Write _) = ⊥

-- one of the records has a wrong length
abbrev pub OneIsOther : Shape → List (List ℕ) → Type 0
OneIsOther shape [] = ⊥
OneIsOther shape (r ∷ rs) = IsOther shape r ⊎ OneIsOther shape rs

-- a fault of the writer, for which P holds
abbrev pub IsOfWriter : (WriteFault → Type 0) → SetFault → Type 0
IsOfWriter P (Write fault) = P fault
IsOfWriter P ReadFailed = ⊥

-- why the records of an input are not written into a file; `RecordLength` only if `other` holds
abbrev pub IsInputFault : Type 0 → SetFault → Type 0
IsInputFault other (Write fault) = IsPutFault other fault
IsInputFault other ReadFailed = Unit {0}

-- Why the file of an input is not written after n other files: it cannot begin, or its records are
-- not written. If the bytes of the input are unknown, so are its records.
abbrev pub IsFileFault : ℕ → Shape → Cut → ℕ → Head1 × Option (List ℕ) → SetFault → Type 0
IsFileFault capacity shape cut n input fault =
    IsOfWriter (IsBeginFault capacity n input.0 shape) fault
    ⊎ IsInputFault (IfSome input.1 (λ bytes. OneIsOther shape (records_of cut bytes))) fault

-- the fault is that of one of the files; the first of them follows n other files
abbrev pub IsFilesFault : ℕ → Shape → Cut → ℕ → List (Head1 × Option (List ℕ)) → SetFault → Type 0
IsFilesFault capacity shape cut n [] fault = ⊥
IsFilesFault capacity shape cut n (x ∷ xs) fault =
    IsFileFault capacity shape cut n x fault ⊎ IsFilesFault capacity shape cut (n + 1) xs fault

-- why the files of the inputs are not written, or the set is not finished after them
abbrev pub IsWholeFault : ℕ → Shape → Cut → List (Head1 × Option (List ℕ)) → SetFault → Type 0
IsWholeFault capacity shape cut inputs fault = IsFilesFault capacity shape cut 0 inputs fault
    ⊎ IsOfWriter (IsFinishFault (length inputs)) fault

-- why a set is not written, if inputs are cut in the given way
abbrev pub IsFaultOfCut : SetPlan → List (Head1 × Option (List ℕ)) → Option Cut → SetFault → Type 0
IsFaultOfCut plan inputs None fault = fault ≡ Write BadShape
IsFaultOfCut plan inputs (Some cut) fault =
    IsOfWriter (IsNewFault plan.set_id plan.volumes.items) fault
    ⊎ IsWholeFault plan.capacity plan.shape cut inputs fault

-- why a set is not written
abbrev pub IsSetFault : SetPlan → List (Head1 × Option (List ℕ)) → SetFault → Type 0
IsSetFault plan inputs fault = IsFaultOfCut plan inputs (cut_of plan.form plan.shape) fault
