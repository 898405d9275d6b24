-- The faults that the calls of a set writer return, and their causes: a fault that these
-- definitions rule out is not returned.
use Rattle.std.specs.Prelude.{None, Option, Some, ℕ, ◌≡◌, List, ◌≤◌, length, ◌<◌}
use Rattle.std.specs.List.{AllByRecursion}
use Rattle.tape_label.specs.{declared.values.Head1.Head1, declared.values.Vol1.Vol1}
use Rattle.tape_blocks.specs.{Packing.IsWritable, declared.parts.Shape.Shape}
use Rattle.tape_set.specs.Tight.{least_capacity}
use Rattle.tape_writer.specs.declared.phase.Phase.TheVariants.{Between, Failed, Filing, Finished}
use Rattle.tape_writer.specs.{Fields.IsText, Fields.IsTextHead, Fields.IsTextVolume}
use Rattle.tape_writer.specs.{declared.course.Opened.Opened, declared.fault.WriteFault.WriteFault}
use Rattle.tape_writer.specs.{declared.phase.Phase.Phase, Faults.IsEnding}
use Rattle.tape_writer.specs.declared.fault.WriteFault.TheVariants as faults

-- the given file is the current file
abbrev pub IsInFile : Opened → Phase → Type 0
IsInFile file (Filing o) = o.file ≡ file
IsInFile file _ = ⊥

-- the fault with which a file is refused in the given phase, if none can begin in it
abbrev pub closed_by : Phase → Option WriteFault
closed_by Between = None
closed_by (Filing o) = Some faults.FileBegun
closed_by Failed = Some faults.Failed
closed_by Finished = Some faults.Finished

-- why a set with the given identifier cannot be written on the given volumes
abbrev pub IsNewFault : List ℕ → List Vol1 → WriteFault → Type 0
IsNewFault set_id volumes faults.BadField = IsText set_id × AllByRecursion IsTextVolume volumes → ⊥
IsNewFault set_id volumes faults.OutOfVolumes = length volumes ≡ 0
IsNewFault set_id volumes faults.TooMany = 9999 < length volumes
IsNewFault set_id volumes _ = ⊥

-- why a file with the given head and shape cannot begin after n other files, with the given
-- capacity
abbrev pub IsBeginFault : ℕ → ℕ → Head1 → Shape → WriteFault → Type 0
IsBeginFault capacity n head shape faults.BadField = IsTextHead head → ⊥
IsBeginFault capacity n head shape faults.BadShape = IsWritable shape → ⊥
IsBeginFault capacity n head shape faults.CapacityTooSmall = capacity < least_capacity shape
IsBeginFault capacity n head shape faults.TooMany = 9999 ≤ n
IsBeginFault capacity n head shape faults.Device = Unit {0}
IsBeginFault capacity n head shape faults.OutOfMemory = Unit {0}
IsBeginFault capacity n head shape _ = ⊥

-- why records cannot be written into the current file; `RecordLength` only if `other` holds
abbrev pub IsPutFault : Type 0 → WriteFault → Type 0
IsPutFault other faults.RecordLength = other
IsPutFault other fault = IsEnding fault

-- why a set cannot be finished after the given number of volumes
abbrev pub IsFinishFault : ℕ → WriteFault → Type 0
IsFinishFault volumes faults.NoFile = volumes ≡ 0
IsFinishFault volumes faults.Device = Unit {0}
IsFinishFault volumes faults.OutOfMemory = Unit {0}
IsFinishFault volumes _ = ⊥
