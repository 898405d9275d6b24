-- The fixed numbers of faults, and how those of the libraries are reported.
use Rattle.std.specs.Prelude.{ℕ}
use Rattle.tape_writer.specs.declared.system.fault.FileFault.TheVariants.{Exists, NotOpened}
use Rattle.tape_writer.specs.declared.fault.WriteFault.{WriteFault}
use Rattle.tape_writer.specs.declared.system.fault.SystemFault.{SystemFault}
use Rattle.tape_writer.specs.declared.system.fault.FileFault.{FileFault}
use Rattle.tape_writer.specs.declared.system.fault.FileFault.TheVariants.{ReadFailed, WriteFailed}
use Rattle.tape_writer.specs.declared.fault.WriteFault.TheVariants as writes
use Rattle.tape_writer.specs.declared.system.fault.SystemFault.TheVariants as system
use Rattle.tape_run.specs.declared.fault.EngineFault.{EngineFault}
use Rattle.tape_run.specs.declared.fault.RunFault.TheVariants.{OutOfMemory}
use Rattle.tape_run.specs.declared.fault.ListFault.{ListFault}
use Rattle.tape_run.specs.declared.fault.EngineFault.TheVariants as engine
use Rattle.tape_run.specs.declared.fault.ListFault.TheVariants as list
use Rattle.tape_tool.specs.declared.fault.ToolFault.{ToolFault}
use Rattle.tape_tool.specs.declared.fault.ToolFault.TheVariants.{Image, Write, File, Run}

-- the number of a file's fault
abbrev pub file_number : FileFault → ℕ
file_number Exists = 1
file_number NotOpened = 2
file_number ReadFailed = 3
file_number WriteFailed = 4

-- the number of a fault of the writer
abbrev pub write_number : WriteFault → ℕ
write_number writes.BadField = 1
write_number writes.BadShape = 2
write_number writes.CapacityTooSmall = 3
write_number writes.RecordLength = 4
write_number writes.NoFile = 5
write_number writes.FileBegun = 6
write_number writes.OutOfVolumes = 7
write_number writes.TooMany = 8
write_number writes.Device = 9
write_number writes.OutOfMemory = 10
write_number writes.Failed = 11
write_number writes.Finished = 12

-- out of memory, for the arguments of the command line too: the fourth fault of a run
abbrev pub no_memory : ToolFault
no_memory = Run OutOfMemory

-- how a command ends if a set was not written
abbrev pub of_system : SystemFault → ToolFault
of_system (system.Write fault) = Write fault
of_system (system.File fault) = File fault

-- the fault of a library, as one of a command
abbrev pub of_engine : EngineFault → ToolFault
of_engine (engine.Run fault) = Run fault
of_engine engine.WriteFailed = File WriteFailed

-- how a command ends if an image was not listed
abbrev pub of_list : ListFault → ToolFault
of_list (list.Image fault) = Image fault
of_list list.WriteFailed = File WriteFailed
