-- A record of a stage was not written.
use Rattle.std.proofs.Common.{◌≡◌, Option, Some, None, refl, sym, ap, subst, ◌∙◌, inl, inr}
use Rattle.tape_blocks.specs.declared.parts.Form.{Form}
use Rattle.tape_run.specs.{Causes.RecordFails, declared.fault.EngineFault.EngineFault}
use Rattle.tape_run.specs.declared.fault.EngineFault.TheVariants as engine
use Rattle.tape_tool.specs.{Fault.of_engine, StageReport.EndsInRecords}
use Rattle.tape_tool.specs.declared.fault.ToolFault.{ToolFault}
use Rattle.tape_tool.specs.declared.fault.ToolFault.TheVariants.{Run}

fails : (form : Form) (stays : Type 0) (fault : EngineFault) → RecordFails form stays fault
    → EndsInRecords (Some form) (of_engine fault)
fails form stays (engine.Run cause) (is, counted, stay) =
    (λ e. cc e, inr (inr (ap Some counted, ap Run is)))
fails form stays engine.WriteFailed f = (λ e. cc e, inl refl)

pub ends_so : (asked : Option Form) (form : Form) (stays : Type 0) (fault : EngineFault)
    (told : ToolFault) → asked ≡ Some form → RecordFails form stays fault → told ≡ of_engine fault
    → EndsInRecords asked told
ends_so asked form stays fault told is f e = rw (is, e) (fails form stays fault f)
