-- The lines of `stage`, and the records that it writes.
use Rattle.std.specs.Prelude.{◌≡◌, ◌≢◌, ◌⊎◌, ℕ, List, [], ◌++◌, length, Option, Some, None, Bool}
use Rattle.std.specs.Prelude.{false, codes, decimal}
use Rattle.std.specs.Io.KnownBytes.{Appends, Keeps}
use Rattle.tape_blocks.specs.{Block.Portion, Spans.join, declared.parts.Form.Form}
use Rattle.tape_blocks.specs.declared.parts.Form.TheVariants.{Counted}
use Rattle.tape_set.specs.Position.{want_at}
use Rattle.tape_core.specs.Point.{Point}
use Rattle.tape_run.specs.{Identifier.identifier_text, RecordText.output_of, ReelLine.last_line}
use Rattle.tape_run.specs.declared.fault.RunFault.TheVariants.{OutOfMemory}
use Rattle.tape_image.specs.Written.{AppendsFront}
use Rattle.tape_stage.specs.{Faults.OnBadFrame, Faults.SaysNone, Found.IsFaultOf, Salvaged.Remains}
use Rattle.tape_stage.specs.{Staged.Staged, Staged.HoldsNone, declared.stage.StageFault.StageFault}
use Rattle.tape_stage.specs.declared.stage.StageFault.TheVariants.{Device, Failed, Full}
use Rattle.tape_writer.specs.declared.system.fault.FileFault.TheVariants.{WriteFailed}
use Rattle.tape_tool.specs.declared.fault.ToolFault.{ToolFault}
use Rattle.tape_tool.specs.declared.fault.ToolFault.TheVariants.{File, Run, Stage}
use Rattle.tape_tool.specs.declared.stage.show.StageEnding.{StageEnding}
use Rattle.tape_tool.specs.declared.stage.show.StageEnding.TheVariants.{Whole, Broken}

-- the line after the parts: the last line that `extract` would print, or where the frames are
-- damaged
abbrev pub ending_line : StageEnding → ℕ → List ℕ
ending_line (Whole want) records = last_line want records
ending_line (Broken place) records = codes "TRUNCATED AT " ++ decimal place ++ codes "\n"

-- both lines: the file of a checkpoint, and how many complete records are staged before it; then
-- the end
abbrev pub told_with : Point → StageEnding → ℕ → List ℕ
told_with point ending records =
    codes "STAGE " ++ identifier_text point.set_id ++ codes " " ++ decimal point.file ++ codes " "
    ++ decimal records ++ codes "\n" ++ ending_line ending records

-- the end of a stage: the part missing at this checkpoint, if all frames are intact
abbrev pub ending_of : Point → Option ℕ → StageEnding
ending_of point None = Whole (want_at point.file point.position)
ending_of point (Some place) = Broken place

-- the text of the records in the given form, or nothing if they are not written
abbrev pub output_in : Option Form → List Portion → List ℕ
output_in None parts = []
output_in (Some form) parts = output_of form parts

-- The faults while the records are written: a failed write, or the stage's device, since the parts
-- are read again, or in the counted form a record for which there is no memory.
abbrev pub EndsInRecords : Option Form → ToolFault → Type 0
EndsInRecords form fault = (form ≢ None)
    × ((fault ≡ File WriteFailed) ⊎ (fault ≡ Stage Device)
    ⊎ ((form ≡ Some Counted) × (fault ≡ Run OutOfMemory)))

-- How far a run came that ended with a fault: a prefix of the records was written, and nothing was
-- printed; or all records were written, and a prefix of the lines was printed.
pub data GivesFront (point : Point) (ending : StageEnding) (form : Option Form)
    (out written said says : Option (List ℕ)) (parts : List Portion) (fault : ToolFault)
    : Type 0 where
  in_records : AppendsFront out written (output_in form parts) → Keeps said says
      → EndsInRecords form fault → GivesFront point ending form out written said says parts fault
  in_lines : Appends out written (output_in form parts)
      → AppendsFront said says (told_with point ending (length (join parts).records))
      → fault ≡ File WriteFailed → GivesFront point ending form out written said says parts fault

-- The bytes that were read contain these remains: a checkpoint, and its parts up to the damage, if
-- there is any. Without `damaged` there is none: the bytes represent the checkpoint and its parts.
-- The records of the parts were written, and both lines were printed.
pub record Shows (read : List ℕ) (damaged : Bool) (form : Option Form)
    (out written said says : Option (List ℕ)) (ending : StageEnding) : Type 0 where
  pub generation : ℕ
  pub point : Point
  pub broken : Option ℕ
  pub parts : List Portion
  pub remains : Remains read generation point broken parts
  pub whole : damaged ≡ false → (broken ≡ None) × Staged read generation point parts
  pub ends : ending ≡ ending_of point broken
  pub wrote : Appends out written (output_in form parts)
  pub told : Appends said says (told_with point ending (length (join parts).records))

-- A fault ended the run. Either no stage was opened and nothing was written; NoPoint is reported
-- only if no slot is valid, BadFrame with the offset of the bad frame, never with `damaged`, and
-- Full and Failed never. Or a prefix of the output was written, as `GivesFront` says.
pub data StopsShowing (read : List ℕ) (damaged : Bool) (form : Option Form)
    (out written said says : Option (List ℕ)) (fault : ToolFault) : Type 0 where
  unopened : (cause : StageFault) → fault ≡ Stage cause → (SaysNone cause → HoldsNone read)
      → IsFaultOf read cause → OnBadFrame cause (λ place. damaged ≡ false)
      → cause ≢ Full → cause ≢ Failed → Keeps out written → Keeps said says
      → StopsShowing read damaged form out written said says fault
  in_part : (generation : ℕ) (point : Point) (broken : Option ℕ) (parts : List Portion)
      → Remains read generation point broken parts → (damaged ≡ false → broken ≡ None)
      → GivesFront point (ending_of point broken) form out written said says parts fault
      → StopsShowing read damaged form out written said says fault
