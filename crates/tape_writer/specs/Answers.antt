-- The meaning of the system's errors: only one kind of error says that a file does not exist.
use Rattle.std.specs.Prelude.{Bool, Err, None, Option, Some, true, Ok, Result, false, pos}
use Rattle.std.specs.Prelude.{if◌then◌else◌, ℤ, ◌||◌}
use Rattle.std.specs.{declared.io.ErrorKind.TheVariants.Unsupported}
use Rattle.std.specs.{declared.io.ErrorKind.TheVariants.NotFound, declared.io.ErrorKind.ErrorKind}
use Rattle.std.specs.{declared.fs.locks.TryLockError.TryLockError, declared.io.Error.Error}
use Rattle.std.specs.{IoError.error_kind, IoError.raw_os_error, Ordering.int_eq}
use Rattle.std.specs.{declared.fs.attrs.Metadata.Metadata}
use Rattle.tape_writer.specs.{declared.system.answers.LockFault.TheVariants.Failed}
use Rattle.tape_writer.specs.{declared.system.answers.LockFault.TheVariants.InUse}
use Rattle.tape_writer.specs.{declared.system.answers.LockFault.LockFault}
use Rattle.tape_writer.specs.{declared.system.fault.FileFault.FileFault}
use Rattle.tape_writer.specs.{declared.system.fault.FileFault.TheVariants.NotOpened}
use Rattle.std.specs.declared.fs.locks.TryLockError.TheVariants as attempts

-- only an error of the kind `NotFound` says that no file exists
abbrev pub absent_of : ErrorKind → Result (Option Metadata) FileFault
absent_of NotFound = Ok None
absent_of _ = Err NotOpened

-- the result of a lookup
abbrev pub found_of : Result Metadata Error → Result (Option Metadata) FileFault
found_of (Ok there) = Ok (Some there)
found_of (Err error) = absent_of (error_kind error)

-- the error number 37, ENOLCK, which NFS returns if the lock service is missing
abbrev pub is_enolck : Option ℤ → Bool
is_enolck (Some code) = int_eq code (pos 37)
is_enolck None = false

-- an error of the kind `Unsupported`
abbrev pub is_unsupported : ErrorKind → Bool
is_unsupported Unsupported = true
is_unsupported _ = false

-- only these errors say that the file system has no locks
abbrev pub has_no_locks : Error → Bool
has_no_locks error = is_unsupported (error_kind error) || is_enolck (raw_os_error error)

-- whether a run may continue with a file after trying to lock it
abbrev pub locked_of : Result (Unit {0}) TryLockError → Result (Unit {0}) LockFault
locked_of (Ok _) = Ok tt
locked_of (Err attempts.WouldBlock) = Err InUse
locked_of (Err (attempts.Error error)) = if has_no_locks error then Ok tt else Err Failed
