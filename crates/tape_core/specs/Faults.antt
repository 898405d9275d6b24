-- The fixed numbers of the faults.
use Rattle.std.specs.Prelude.{ℕ}
use Rattle.tape_core.specs.declared.{event.CoreFault.CoreFault, sink.SinkFault.SinkFault}
use Rattle.tape_core.specs.declared.event.CoreFault.TheVariants.{FileNumber, OtherFile}
use Rattle.tape_core.specs.declared.sink.SinkFault.TheVariants.{OutOfMemory, Device, Full, Failed}

abbrev pub number : CoreFault → ℕ
number FileNumber = 1
number OtherFile = 2

abbrev pub sink_fault_number : SinkFault → ℕ
sink_fault_number OutOfMemory = 1
sink_fault_number Device = 2
sink_fault_number Full = 3
sink_fault_number Failed = 4
