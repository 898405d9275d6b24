-- How a run of the program ends.
use Rattle.std.specs.Prelude.{◌≡◌, ◌⊎◌, ℕ, Bool, true, false, Option, Some, None, Result, Ok, Err}
use Rattle.clap.specs.declared.error.kind.ErrorKind.{ErrorKind}
use Rattle.clap.specs.declared.error.kind.ErrorKind.TheVariants as kinds
use Rattle.std.specs.declared.io.ErrorKind as io_error
use Rattle.std.specs.declared.io.ErrorKind.TheVariants as io_kinds
use Rattle.tape_set.specs.declared.position.Want.{Want}
use Rattle.tape_run.specs.declared.fault.EngineFault.{EngineFault}
use Rattle.tape_tool.specs.{declared.program.End.End, declared.fault.ToolFault.ToolFault}
use Rattle.tape_tool.specs.declared.program.End.TheVariants.{Done, Faulted, WrongWords, Incomplete}
use Rattle.tape_tool.specs.declared.program.End.TheVariants.{Closed}
use Rattle.tape_tool.specs.declared.fault.ToolFault.TheVariants.{File}
use Rattle.tape_tool.specs.declared.stage.show.StageEnding.{StageEnding}
use Rattle.tape_tool.specs.declared.stage.show.StageEnding.TheVariants.{Whole, Broken}
use Rattle.tape_tool.specs.{declared.refusal.Refusal.Refusal, Fault.no_memory, Fault.of_engine}
use Rattle.tape_writer.specs.declared.system.fault.FileFault.TheVariants.{WriteFailed}
use Rattle.tape_tool.specs.declared.refusal.Refusal.TheVariants as unfits

-- the exit status of each end
abbrev pub exit_status : End → ℕ
exit_status Done = 0
exit_status (Faulted _) = 1
exit_status WrongWords = 2
exit_status Incomplete = 3
exit_status Closed = 141

-- how a command ends with this result
abbrev pub end_of : Result (Unit {0}) ToolFault → End
end_of (Ok _) = Done
end_of (Err fault) = Faulted fault

-- how a check ends that found all sections or did not
abbrev pub check_end : Result Bool EngineFault → End
check_end (Ok true) = Done
check_end (Ok false) = Incomplete
check_end (Err fault) = Faulted (of_engine fault)

-- how `extract` ends: if something of the file is missing, without success
abbrev pub extract_end : Result (Option Want) EngineFault → End
extract_end (Ok None) = Done
extract_end (Ok (Some want)) = Incomplete
extract_end (Err fault) = Faulted (of_engine fault)

-- how `stage` ends: with success only if the file is complete and the stage intact
abbrev pub stage_end : Result StageEnding ToolFault → End
stage_end (Ok (Whole None)) = Done
stage_end (Ok (Whole (Some want))) = Incomplete
stage_end (Ok (Broken place)) = Incomplete
stage_end (Err fault) = Faulted fault

-- help is a success if it was printed
abbrev pub help_end : Bool → End
help_end true = Done
help_end false = Faulted (File WriteFailed)

-- how a run ends if the argument parser has only a text for it, which was printed or not
abbrev pub words_end : ErrorKind → Bool → End
words_end kinds.OutOfMemory printed = Faulted no_memory
words_end kinds.DisplayHelp printed = help_end printed
words_end kinds.DisplayVersion printed = help_end printed
words_end _ printed = WrongWords

-- how a run ends without its arguments, for this reason
abbrev pub no_words_end : io_error.ErrorKind → End
no_words_end io_kinds.OutOfMemory = Faulted no_memory
no_words_end _ = WrongWords

-- a usage error, or out of memory for its message
abbrev pub IsWrongWords : End → Type 0
IsWrongWords end = (end ≡ WrongWords) ⊎ (end ≡ Faulted no_memory)

-- how a command ends that is not started, for this reason
abbrev pub IsRefusalEnd : Refusal → End → Type 0
IsRefusalEnd (unfits.Faulted fault) end = end ≡ Faulted fault
IsRefusalEnd _ end = IsWrongWords end
