-- Examples for the definitions of why records were not written. They are the contract of the call
-- `laws::cases`.
use Rattle.std.specs.Prelude.{◌≡◌, ◌≢◌, ◌⊎◌, ℕ, [], Bool, true, false}
use Rattle.tape_blocks.specs.declared.parts.Form.{Form}
use Rattle.tape_blocks.specs.declared.parts.Form.TheVariants.{Lines, Raw, Counted}
use Rattle.tape_core.specs.{Weight.Rose, declared.sink.SinkFault.SinkFault}
use Rattle.tape_core.specs.declared.sink.SinkFault.TheVariants.{Device, Failed}
use Rattle.tape_run.specs.{declared.fault.EngineFault.EngineFault, declared.fault.RunFault.RunFault}
use Rattle.tape_run.specs.declared.fault.EngineFault.TheVariants.{Run, WriteFailed}
use Rattle.tape_run.specs.declared.fault.RunFault.TheVariants.{Sink, NoSuchPoint, OutOfMemory}
use Rattle.tape_run.specs.declared.fault.RunFault.TheVariants.{TooFewReels, OtherFile}
use Rattle.tape_run.specs.{Causes.WritingFails, Causes.EndingFails}

-- a sink that consists of its count of refused calls, refuses them with Device alone, and either
-- contains no part or has unknown contents
abbrev pub FailsEmpty : EngineFault → ℕ → ℕ → Type 0
FailsEmpty fault old new =
    WritingFails Lines (λ s ps. ps ≡ []) (λ s. s) (λ mid cause after. cause ≡ Device) old new fault

abbrev pub FailsUnknown : EngineFault → ℕ → ℕ → Type 0
FailsUnknown fault old new =
    WritingFails Raw (λ s ps. ⊥) (λ s. s) (λ mid cause after. cause ≡ Device) old new fault

pub record CasesOfCauses : Type 0 where
  -- a refusal is reported if one was counted, with the fault of the call
  pub refused_writing : (cause : SinkFault) (old new : ℕ) → FailsEmpty (Run (Sink cause)) old new
      → Rose old new × (cause ≡ Device)
  pub told_refusal : FailsEmpty (Run (Sink Device)) 3 4
  -- only a sink with unknown contents may return Failed, and no other fault, without a refused call
  pub only_failed : (cause : SinkFault) (old new : ℕ) → FailsUnknown (Run (Sink cause)) old new
      → (Rose old new × (cause ≡ Device)) ⊎ (cause ≡ Failed)
  pub fewer_given : FailsUnknown (Run (Sink Failed)) 3 3
  -- no other fault occurs, and a failed write is not a refusal
  pub no_other_fault : (old new : ℕ) → (FailsUnknown (Run NoSuchPoint) old new → ⊥)
      × (FailsUnknown (Run TooFewReels) old new → ⊥) × (FailsUnknown (Run OutOfMemory) old new → ⊥)
      × (FailsUnknown (Run OtherFile) old new → ⊥)
  -- except in the counted form, where memory can run out, which is not a refusal, either
  pub counted_memory : (old new : ℕ)
      → WritingFails Counted (λ s ps. ⊥) (λ s. s) (λ mid cause after. cause ≡ Device) old new
      (Run OutOfMemory) → new ≡ old
  pub write_failed : (old new : ℕ) → FailsUnknown WriteFailed old new → new ≡ old
  -- the output of a sink is not finished for one of two reasons, and each of them is one
  pub not_ended : (begun : Bool) (form asked : Form) (fault : RunFault)
      → EndingFails begun form asked (Run fault)
      → (fault ≡ Sink Failed) × ((begun ≡ true) ⊎ (form ≢ asked))
  pub two_reasons : (begun : Bool) (form asked : Form)
      → EndingFails true form asked (Run (Sink Failed))
      × (form ≢ asked → EndingFails begun form asked (Run (Sink Failed)))
  -- or the writer failed, and none of these reasons applies
  pub writer_failed : (begun : Bool) (form asked : Form) → EndingFails begun form asked WriteFailed
      → (begun ≡ true → ⊥) × (form ≢ asked → ⊥)
  pub ends_but_for_it : (form : Form) → EndingFails false form form WriteFailed
