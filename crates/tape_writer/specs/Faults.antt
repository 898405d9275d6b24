-- The causes of the writer's faults, and their effects.
use Rattle.std.specs.Prelude.{IfErr, ◌≡◌, Result, ◌≢◌}
use Rattle.tape_writer.specs.{declared.fault.WriteFault.TheVariants.Device}
use Rattle.tape_writer.specs.{declared.fault.WriteFault.TheVariants.OutOfMemory}
use Rattle.tape_writer.specs.{declared.fault.WriteFault.TheVariants.OutOfVolumes, Tapes.Failures}
use Rattle.tape_writer.specs.{Tapes.HasCause, Tapes.Rose, declared.fault.WriteFault.WriteFault}

-- `Device` is returned only if the device failed in the call
abbrev pub FailsByDevice : Failures → Result (Unit {0}) WriteFault → Failures → Type 0
FailsByDevice old result new = IfErr result (λ fault. fault ≡ Device → Rose old.device new.device)

-- `Device` is returned only if the device failed, and `OutOfMemory` only if an allocation of the
-- tapes failed
abbrev pub FailsWith : Failures → Result (Unit {0}) WriteFault → Failures → Type 0
FailsWith old result new = HasCause Device OutOfMemory old result new

-- the faults after which every call returns `Failed`
abbrev pub IsEnding : WriteFault → Type 0
IsEnding OutOfVolumes = Unit {0}
IsEnding Device = Unit {0}
IsEnding OutOfMemory = Unit {0}
IsEnding _ = ⊥

-- those that an output causes: all except `OutOfVolumes`
abbrev pub IsOfOut : WriteFault → Type 0
IsOfOut fault = IsEnding fault × (fault ≢ OutOfVolumes)
