-- The faults of a stage: their fixed numbers, and their meaning.
use Rattle.std.specs.Prelude.{ℕ}
use Rattle.tape_stage.specs.declared.stage.StageFault.{StageFault}
use Rattle.tape_stage.specs.declared.stage.StageFault.TheVariants.{NoPoint, BadFrame, Device}
use Rattle.tape_stage.specs.declared.stage.StageFault.TheVariants.{OutOfMemory, Failed, Full}
use Rattle.tape_core.specs.declared.sink.SinkFault.{SinkFault}
use Rattle.tape_core.specs.declared.sink.SinkFault.TheVariants as sink

-- the numbers of the faults, in the order of their list
abbrev pub number : StageFault → ℕ
number NoPoint = 1
number (BadFrame place) = 2
number Device = 3
number OutOfMemory = 4
number Failed = 5
number Full = 6

-- the fault says that nothing is staged
abbrev pub SaysNone : StageFault → Type 0
SaysNone NoPoint = Unit {0}
SaysNone (BadFrame place) = Unit {0}
SaysNone _ = ⊥

-- the fault as a fault of a sink
abbrev pub sink_fault_of : StageFault → SinkFault
sink_fault_of OutOfMemory = sink.OutOfMemory
sink_fault_of Device = sink.Device
sink_fault_of Full = sink.Full
sink_fault_of _ = sink.Failed

-- the fault is not a failure of the disk
abbrev pub IsNotDevice : StageFault → Type 0
IsNotDevice Device = ⊥
IsNotDevice _ = Unit {0}

-- P holds for the offset of a bad frame, if the fault has one
abbrev pub OnBadFrame : StageFault → (ℕ → Type 0) → Type 0
OnBadFrame (BadFrame place) P = P place
OnBadFrame _ P = Unit {0}
