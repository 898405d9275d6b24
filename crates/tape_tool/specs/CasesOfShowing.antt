-- Examples for the definitions of `stage`, which show that none of them is too weak.
use Rattle.std.specs.Prelude.{◌≡◌, ◌≢◌, ◌⊎◌, ℕ, Bool, true, false, List, [], length, Option, Some}
use Rattle.std.specs.Prelude.{None, Ok, Err, codes}
use Rattle.std.specs.Io.KnownBytes.{Appends, Keeps}
use Rattle.tape_blocks.specs.{Block.Portion, Spans.join, declared.parts.Form.Form}
use Rattle.tape_blocks.specs.declared.parts.Form.TheVariants.{Counted}
use Rattle.tape_run.specs.declared.fault.RunFault.TheVariants as run
use Rattle.tape_set.specs.{declared.position.Want.Want, declared.position.Position.Position}
use Rattle.tape_set.specs.declared.position.Position.TheVariants.{Awaits, Finished}
use Rattle.tape_core.specs.Point.{Point}
use Rattle.tape_image.specs.Written.{AppendsFront}
use Rattle.tape_run.specs.{RecordText.output_of, declared.fault.RunFault.RunFault}
use Rattle.tape_stage.specs.declared.stage.StageFault.TheVariants.{Device, Failed, Full}
use Rattle.tape_stage.specs.{Faults.OnBadFrame, Faults.SaysNone, Found.IsFaultOf, Salvaged.Remains}
use Rattle.tape_stage.specs.{Staged.Staged, Staged.HoldsNone, declared.stage.StageFault.StageFault}
use Rattle.tape_stage.specs.declared.stage.StageFault.TheVariants.{OutOfMemory}
use Rattle.tape_writer.specs.declared.system.fault.FileFault.{FileFault}
use Rattle.tape_writer.specs.declared.system.fault.FileFault.TheVariants.{WriteFailed}
use Rattle.tape_tool.specs.declared.program.End.TheVariants.{Done, Faulted, Incomplete}
use Rattle.tape_tool.specs.{declared.fault.ToolFault.ToolFault, Ends.stage_end}
use Rattle.tape_tool.specs.declared.fault.ToolFault.TheVariants.{File, Run, Stage}
use Rattle.tape_tool.specs.declared.stage.show.StageEnding.{StageEnding}
use Rattle.tape_tool.specs.declared.stage.show.StageEnding.TheVariants.{Whole, Broken}
use Rattle.tape_tool.specs.StageReport.{ending_of, output_in, told_with, Shows, StopsShowing}

-- both lines, for a stage that is damaged there or intact
abbrev pub told_of : Point → Option ℕ → ℕ → List ℕ
told_of point broken records = told_with point (ending_of point broken) records

-- a checkpoint of file 1 of a set, at this position
abbrev pub point_at : Position → Point
point_at position = record {
  set_id = codes "ABC001";
  file = 1;
  position = position;
  begun = false;
  known = None;
  staged = 0;
}

-- the meaning of a fault: no stage was opened and nothing written, and NoPoint and BadFrame are
-- true of the bytes; or a prefix of the remaining records was written and nothing printed, and the
-- fault is a failed write, the device or, in the counted form, a record that is too long; or all of
-- them and a prefix of the lines, and the fault is a failed write
abbrev pub StopSays : List ℕ → Bool → Option Form → Option (List ℕ) → Option (List ℕ)
    → Option (List ℕ) → Option (List ℕ) → ToolFault → Type 0
StopSays read damaged form out written said says fault =
    StopsShowing read damaged form out written said says fault
    → ((cause : StageFault) × (fault ≡ Stage cause) × (SaysNone cause → HoldsNone read)
    × IsFaultOf read cause × OnBadFrame cause (λ place. damaged ≡ false)
    × (cause ≢ Full) × (cause ≢ Failed) × Keeps out written × Keeps said says)
    ⊎ ((g : ℕ) × (point : Point) × (broken : Option ℕ) × (parts : List Portion)
    × Remains read g point broken parts × (damaged ≡ false → broken ≡ None)
    × ((AppendsFront out written (output_in form parts) × Keeps said says × (form ≢ None)
    × ((fault ≡ File WriteFailed) ⊎ ((fault ≡ Stage Device)
    ⊎ ((form ≡ Some Counted) × (fault ≡ Run run.OutOfMemory)))))
    ⊎ (Appends out written (output_in form parts)
    × AppendsFront said says (told_of point broken (length (join parts).records))
    × (fault ≡ File WriteFailed))))

-- The faults that can end it: a stage is never reported as full, or as failed before; after
-- OutOfMemory nothing was written; a fault of a file is a failed write, and the only fault of a run
-- is OutOfMemory in the counted form.
abbrev pub StoppedOnlyBy : Option Form → (ToolFault → Type 0) → Type 0 → Type 0
StoppedOnlyBy form stops untouched = (stops (Stage Full) → ⊥) × (stops (Stage Failed) → ⊥)
    × (stops (Stage OutOfMemory) → untouched)
    × ((fault : FileFault) → stops (File fault) → fault ≡ WriteFailed)
    × ((fault : RunFault) → stops (Run fault)
    → (form ≡ Some Counted) × (fault ≡ run.OutOfMemory))

-- the lines of `stage`
pub record CasesOfShowing : Type 0 where
  -- if something is missing, and if the file is complete
  pub awaits : told_of (point_at (Awaits 1 2 0)) None 20
      ≡ codes "STAGE ABC001 1 20\nAWAITS 1 1 2\n"
  pub complete : told_of (point_at Finished) None 25 ≡ codes "STAGE ABC001 1 25\nCOMPLETE 25\n"
  -- and if the frames are damaged, although the checkpoint says that the file is complete
  pub breaks : told_of (point_at Finished) (Some 1276) 12
      ≡ codes "STAGE ABC001 1 12\nTRUNCATED AT 1276\n"
  -- how a run ends
  pub ends : (want : Want) (place : ℕ) (fault : ToolFault)
      → (stage_end (Ok (Whole None)) ≡ Done) × (stage_end (Ok (Whole (Some want))) ≡ Incomplete)
      × (stage_end (Ok (Broken place)) ≡ Incomplete)
      × (stage_end (Err fault) ≡ Faulted fault)
  -- the records of all parts that remain were written, and their number is reported; without
  -- `damaged` these are all staged parts
  pub shown : (read : List ℕ) (damaged : Bool) (form : Form)
      (out written said says : Option (List ℕ)) (ending : StageEnding)
      (s : Shows read damaged (Some form) out written said says ending)
      → Remains read s.generation s.point s.broken s.parts
      × (damaged ≡ false → (s.broken ≡ None) × Staged read s.generation s.point s.parts)
      × (ending ≡ ending_of s.point s.broken)
      × Appends out written (output_of form s.parts)
      × Appends said says (told_with s.point ending (length (join s.parts).records))
  -- without a form nothing is written
  pub counted : (read : List ℕ) (damaged : Bool) (out written said says : Option (List ℕ))
      (ending : StageEnding) (s : Shows read damaged None out written said says ending)
      → Appends out written []
      × Appends said says (told_with s.point ending (length (join s.parts).records))
  -- after a fault none of these records was written, or a prefix
  pub stopped : (read : List ℕ) (damaged : Bool) (form : Option Form)
      (out written said says : Option (List ℕ))
      → ((fault : ToolFault) → StopSays read damaged form out written said says fault)
      -- the device fails only before anything is printed, and before anything is written if no
      -- records are
      × (StopsShowing read damaged form out written said says (Stage Device)
      → Keeps said says × (form ≡ None → Keeps out written))
      -- which faults stop it
      × StoppedOnlyBy form (StopsShowing read damaged form out written said says)
      (Keeps out written × Keeps said says)
      -- an intact stage is never reported as not being one
      × ((g : ℕ) (point : Point) (parts : List Portion) (cause : StageFault)
      → Staged read g point parts → SaysNone cause
      → StopsShowing read damaged form out written said says (Stage cause) → ⊥)
  -- with `damaged`, nor is a stage of which something remains, and BadFrame is never reported
  pub remaining : (read : List ℕ) (form : Option Form) (out written said says : Option (List ℕ))
      (g : ℕ) (point : Point) (broken : Option ℕ) (parts : List Portion) (cause : StageFault)
      → Remains read g point broken parts → SaysNone cause
      → StopsShowing read true form out written said says (Stage cause) → ⊥
