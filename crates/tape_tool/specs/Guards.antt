-- What the program does if the system refuses something.
use Rattle.std.specs.declared.io.ErrorKind.TheVariants.{NotFound, PermissionDenied}
use Rattle.std.specs.Prelude.{Bool, true, false, not, Result, Ok, Err}
use Rattle.std.specs.{declared.io.ErrorKind.ErrorKind, declared.fs.locks.TryLockError.TryLockError}
use Rattle.std.specs.declared.io.ErrorKind.TheVariants.{ReadOnlyFilesystem}
use Rattle.tape_writer.specs.{Answers.locked_of, declared.system.answers.LockFault.LockFault}
use Rattle.tape_writer.specs.declared.system.answers.LockFault.TheVariants.{InUse, Failed}
use Rattle.tape_writer.specs.declared.system.fault.FileFault.TheVariants.{NotOpened}
use Rattle.tape_tool.specs.declared.fault.ToolFault.{ToolFault}
use Rattle.tape_tool.specs.declared.fault.ToolFault.TheVariants.{File, StageInUse}

-- whether an output may be written in place if no new file could be created: in a directory that
-- accepts no new file, or in one that does not exist, where nothing can be lost
abbrev pub is_written_in_place : ErrorKind → Bool → Bool
is_written_in_place PermissionDenied there = true
is_written_in_place ReadOnlyFilesystem there = true
is_written_in_place NotFound there = not there
is_written_in_place _ there = false

-- how a stage that is not locked is reported
abbrev pub unlocked_stage : Result (Unit {0}) LockFault → Result (Unit {0}) ToolFault
unlocked_stage (Ok _) = Ok tt
unlocked_stage (Err InUse) = Err StageInUse
unlocked_stage (Err Failed) = Err (File NotOpened)

-- whether a run may continue with a stage that it tried to lock
abbrev pub locked_stage : Result (Unit {0}) TryLockError → Result (Unit {0}) ToolFault
locked_stage attempt = unlocked_stage (locked_of attempt)
