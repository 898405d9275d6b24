-- Examples for the definitions of ends, faults, lines, names and sessions over stages, which show
-- that none of them is too weak or too strict. They are the contract of the call `laws::cases`.
use Rattle.std.specs.Prelude.{◌≡◌, ◌⊎◌, ℕ, Bool, true, false, List, [], ◌∷◌, map, replicate}
use Rattle.std.specs.Prelude.{codes, Option, Some, None, Ok, Err}
use Rattle.std.specs.{Borrow.Bor, List.join_with_byte}
use Rattle.clap.specs.declared.error.kind.ErrorKind.TheVariants as kinds
use Rattle.std.specs.declared.io.ErrorKind.TheVariants as io_kinds
use Rattle.tape_image.specs.declared.item.ImageFault.{ImageFault}
use Rattle.tape_image.specs.declared.item.ImageCause.TheVariants as causes
use Rattle.tape_label.specs.declared.label.LabelFault.TheVariants as labels
use Rattle.tape_blocks.specs.Block.{Portion}
use Rattle.tape_set.specs.declared.position.Want.{Want}
use Rattle.tape_set.specs.declared.position.Position.TheVariants.{Awaits}
use Rattle.tape_core.specs.{Place.place_of, Place.rest_of, Point.Point}
use Rattle.tape_writer.specs.declared.system.fault.FileFault.TheVariants.{Exists, NotOpened}
use Rattle.tape_writer.specs.declared.fault.WriteFault.{WriteFault}
use Rattle.tape_writer.specs.declared.system.fault.FileFault.{FileFault}
use Rattle.tape_writer.specs.declared.system.fault.FileFault.TheVariants.{ReadFailed, WriteFailed}
use Rattle.tape_writer.specs.declared.fault.WriteFault.TheVariants as writes
use Rattle.tape_writer.specs.declared.system.fault.SystemFault.TheVariants as system
use Rattle.tape_run.specs.{declared.fault.RunFault.RunFault, SessionState.SessionState}
use Rattle.tape_run.specs.declared.fault.RunFault.TheVariants as runs
use Rattle.tape_run.specs.declared.fault.EngineFault.TheVariants as engine
use Rattle.tape_run.specs.declared.fault.ListFault.TheVariants as list
use Rattle.tape_stage.specs.{Found.IsBadPlace, Staged.Staged, Staged.HoldsNone, Staged.Holding}
use Rattle.tape_stage.specs.{Salvaged.Remains, Salvaged.RemainsNone, declared.stage.Stage.Stage}
use Rattle.tape_stage.specs.{Stages.Returns, Stages.Returned, declared.disk.Disk.Ghosts}
use Rattle.tape_stage.specs.declared.stage.StageFault.TheVariants as stages
use Rattle.tape_tool.specs.declared.fault.ToolFault.TheVariants.{Image, Label, Write, File, Run}
use Rattle.tape_tool.specs.Ends.{exit_status, end_of, check_end, extract_end, help_end, words_end}
use Rattle.tape_tool.specs.Fault.{file_number, write_number, no_memory, of_system, of_engine}
use Rattle.tape_tool.specs.Staging.{IsOfFile, first_point, StandsAt, GoesOn, Says, IsUnopened}
use Rattle.tape_tool.specs.{declared.program.End.End, declared.fault.ToolFault.ToolFault}
use Rattle.tape_tool.specs.declared.program.End.TheVariants.{Done, Faulted, WrongWords, Incomplete}
use Rattle.tape_tool.specs.declared.program.End.TheVariants.{Closed}
use Rattle.tape_tool.specs.{Ends.no_words_end, Ends.IsRefusalEnd, Fault.of_list, Report.report}
use Rattle.tape_tool.specs.{Names.end_byte, Names.pieces_of, Names.names_in, Diagnostics.fault_line}
use Rattle.tape_tool.specs.Staging.{FailsBy, IsUnmade, RefusesBeginning}
use Rattle.tape_tool.specs.declared.fault.ToolFault.TheVariants.{Stage as OfStage, StageInUse}
use Rattle.tape_tool.specs.declared.fault.ToolFault.TheVariants.{Conflict}
use Rattle.tape_tool.specs.declared.staging.StagingFault.TheVariants as staging
use Rattle.tape_tool.specs.declared.refusal.Refusal.TheVariants as unfits

-- how runs end
pub record CasesOfEnds : Type 0 where
  -- 0 success, 1 an error, 2 a usage error, 3 something is missing
  pub statuses : (fault : ToolFault)
      → map exit_status (Done ∷ Faulted fault ∷ WrongWords ∷ Incomplete ∷ Closed ∷ [])
      ≡ 0 ∷ 1 ∷ 2 ∷ 3 ∷ 141 ∷ []
  -- a command succeeds, or ends with its fault
  pub commands : (fault : ToolFault)
      → (end_of (Ok tt) ≡ Done) × (end_of (Err fault) ≡ Faulted fault)
  -- `check` finds all sections, finds one missing, or ends with the fault of the library
  pub checks : (fault : RunFault) → (check_end (Ok true) ≡ Done)
      × (check_end (Ok false) ≡ Incomplete)
      × (check_end (Err (engine.Run fault)) ≡ Faulted (Run fault))
      × (check_end (Err engine.WriteFailed) ≡ Faulted (File WriteFailed))
  -- `extract` needs nothing more, needs something, or ends with the fault of the library
  pub extracts : (want : Want) (fault : RunFault) → (extract_end (Ok None) ≡ Done)
      × (extract_end (Ok (Some want)) ≡ Incomplete)
      × (extract_end (Err (engine.Run fault)) ≡ Faulted (Run fault))
      × (extract_end (Err engine.WriteFailed) ≡ Faulted (File WriteFailed))
  -- help is a success if it was printed, and so is the version
  pub help : (help_end true ≡ Done) × (help_end false ≡ Faulted (File WriteFailed))
  pub printed : map (λ kind. words_end kind true) (kinds.DisplayHelp ∷ kinds.DisplayVersion ∷ [])
      ≡ Done ∷ Done ∷ []
  pub not_printed : map (λ kind. words_end kind false)
      (kinds.DisplayHelp ∷ kinds.DisplayVersion ∷ [])
      ≡ replicate 2 (Faulted (File WriteFailed))
  -- out of memory for the arguments is a fault, and anything else that can be wrong with them a
  -- usage error
  pub no_memory : (printed : Bool)
      → (words_end kinds.OutOfMemory printed ≡ Faulted (Run runs.OutOfMemory))
      × (no_words_end io_kinds.OutOfMemory ≡ Faulted (Run runs.OutOfMemory))
  pub wrong_words : (printed : Bool) → map (λ kind. words_end kind printed) (kinds.InvalidValue
      ∷ kinds.UnknownArgument ∷ kinds.InvalidSubcommand ∷ kinds.NoEquals ∷ kinds.ValueValidation
      ∷ kinds.TooManyValues ∷ kinds.TooFewValues ∷ kinds.WrongNumberOfValues
      ∷ kinds.ArgumentConflict ∷ kinds.MissingRequiredArgument ∷ kinds.MissingSubcommand
      ∷ kinds.DisplayHelpOnMissingArgumentOrSubcommand ∷ kinds.Io ∷ kinds.Format ∷ [])
      ≡ replicate 14 WrongWords
  -- arguments that are not text, or that could not be obtained
  pub no_words : map no_words_end (io_kinds.InvalidData ∷ io_kinds.InvalidInput ∷ io_kinds.Other
      ∷ []) ≡ replicate 3 WrongWords
  -- a command that is not started ends with its fault, or as a usage error: never as done, or as
  -- incomplete
  pub not_begun : (fault : ToolFault) (end : End) → IsRefusalEnd (unfits.Faulted fault) end
      → end ≡ Faulted fault
  pub lost : (text : Bor (List ℕ)) → IsRefusalEnd (unfits.Words text) WrongWords
      × IsRefusalEnd (unfits.Words text) (Faulted (Run runs.OutOfMemory))
      × (IsRefusalEnd (unfits.Words text) Done → ⊥)
      × (IsRefusalEnd (unfits.Words text) Incomplete → ⊥)
  pub no_text : (null : Bool) (number : ℕ) → IsRefusalEnd (unfits.NoText null number) WrongWords
      × (IsRefusalEnd (unfits.NoText null number) Done → ⊥)

-- the names in a list
pub record CasesOfNames : Type 0 where
  -- no part of a text is left out, and none occurs twice
  pub joined : (null : Bool) (text : List ℕ)
      → join_with_byte (end_byte null) (pieces_of null text) ≡ text
  -- spaces are part of a name, an empty line is not a name, and the last line counts without a line
  -- feed too
  pub lines : names_in false (codes "a b\n\nc") ≡ codes "a b" ∷ codes "c" ∷ []
  pub ended : names_in false (codes "a b\nc\n") ≡ codes "a b" ∷ codes "c" ∷ []
  -- a name that ends with a NUL may contain line feeds
  pub nulls : names_in true (97 ∷ 10 ∷ 98 ∷ 0 ∷ 0 ∷ 99 ∷ []) ≡ codes "a\nb" ∷ codes "c" ∷ []
  pub none : (null : Bool) → names_in null [] ≡ []

-- the numbers of faults, and how the faults of libraries are reported
pub record CasesOfFaults : Type 0 where
  -- the numbers of files, in the order of their list
  pub of_files : map file_number (Exists ∷ NotOpened ∷ ReadFailed ∷ WriteFailed ∷ [])
      ≡ 1 ∷ 2 ∷ 3 ∷ 4 ∷ []
  -- those of the writer
  pub of_writers : map write_number (writes.BadField ∷ writes.BadShape ∷ writes.CapacityTooSmall
      ∷ writes.RecordLength ∷ writes.NoFile ∷ writes.FileBegun ∷ writes.OutOfVolumes
      ∷ writes.TooMany ∷ writes.Device ∷ writes.OutOfMemory ∷ writes.Failed ∷ writes.Finished
      ∷ []) ≡ 1 ∷ 2 ∷ 3 ∷ 4 ∷ 5 ∷ 6 ∷ 7 ∷ 8 ∷ 9 ∷ 10 ∷ 11 ∷ 12 ∷ []
  -- a file's fault remains one, and so does the writer's
  pub of_sets : (fault : WriteFault) → of_system (system.Write fault) ≡ Write fault
  pub of_files_written : (fault : FileFault) → of_system (system.File fault) ≡ File fault
  -- output that could not be written is a fault of a file, and any other fault one of the run or
  -- the image
  pub of_engines : (fault : RunFault) → (of_engine (engine.Run fault) ≡ Run fault)
      × (of_engine engine.WriteFailed ≡ File WriteFailed)
  pub of_lists : (fault : ImageFault) → (of_list (list.Image fault) ≡ Image fault)
      × (of_list list.WriteFailed ≡ File WriteFailed)

-- the lines on standard error, and those that `write` prints
pub record CasesOfLines : Type 0 where
  -- one of each kind of fault; only those of images have an offset
  pub image : fault_line (Image (record { place = 1884; cause = causes.Truncated }))
      ≡ codes "tape: image fault 1 at 1884\n"
  pub label : fault_line (Label (labels.NotACharacter 2)) ≡ codes "tape: label fault 6\n"
  pub write : fault_line (Write writes.OutOfMemory) ≡ codes "tape: write fault 10\n"
  pub file : fault_line (File WriteFailed) ≡ codes "tape: file fault 4\n"
  pub run : fault_line (Run runs.OtherFile) ≡ codes "tape: run fault 5\n"
  pub stage : fault_line (OfStage (stages.BadFrame 300)) ≡ codes "tape: stage fault 2\n"
  -- after the faults of a stage itself, which are 1 to 6
  pub in_use : fault_line StageInUse ≡ codes "tape: stage fault 7\n"
  pub conflict : fault_line Conflict ≡ codes "tape: set fault 1\n"
  -- out of memory for the arguments of the command line
  pub no_memory : fault_line no_memory ≡ codes "tape: run fault 4\n"
  -- a set on two volumes, and one without files
  pub volumes : report 1 (record { volume = codes "ABC001"; size = 2484 }
      ∷ record { volume = codes "ABC002"; size = 460 } ∷ [])
      ≡ codes "VOLUME ABC001 2484\nVOLUME ABC002 460\nFILES 1 VOLUMES 2\n"
  pub none_written : report 0 [] ≡ codes "FILES 0 VOLUMES 0\n"

-- sessions over stages
pub record CasesOfStaging {D : Type 0} (disk : Ghosts D) : Type 0 where
  -- the start of a file of a set: nothing was read, and nothing is staged
  pub first : first_point (codes "ABC001") 3 ≡ record {
    set_id = codes "ABC001";
    file = 3;
    position = Awaits 1 0 0;
    begun = false;
    known = None;
    staged = 0;
  }
  -- a checkpoint belongs to its file and set, and to no others
  pub own : (point : Point) → IsOfFile point.set_id point.file point
  pub other_set : IsOfFile (codes "ABC001") 3 (first_point (codes "XYZ001") 3) → ⊥
  pub other_file : IsOfFile (codes "ABC001") 3 (first_point (codes "ABC001") 4) → ⊥
  -- a session at a checkpoint has the checkpoint's position, and no checkpoint of its own yet,
  pub stands : (point : Point) (parts : List Portion) (session : SessionState (Stage D disk))
      → StandsAt point parts session
      → (rest_of session.core ≡ place_of point) × (session.notes ≡ [])
      -- its stage contains exactly these parts,
      × Holding session.sink.weight parts (disk.seen session.sink.disk)
      -- whatever a crash leaves of the stage now represents a checkpoint,
      × ((bytes : List ℕ) → disk.may_leave session.sink.disk bytes
      → (back : Point) × (there : List Portion) × Returns session.sink back there)
      -- and that is always this checkpoint with these parts
      × ((back : Point) (there : List Portion) → Returns session.sink back there
      → (back ≡ point) × (there ≡ parts))
      -- the same for every state that a crash leaves from this moment on
      × ((bytes : List ℕ) → disk.left_since session.sink.disk (disk.moment session.sink.disk) bytes
      → (back : Point) × (there : List Portion)
      × Returned session.sink (disk.moment session.sink.disk) back there)
      × ((back : Point) (there : List Portion)
      → Returned session.sink (disk.moment session.sink.disk) back there
      → (back ≡ point) × (there ≡ parts))
  -- a session that continues is at the checkpoint that the bytes represent, and this belongs to its
  -- file
  pub goes_on : (set_id read : List ℕ) (file : ℕ) (session : SessionState (Stage D disk))
      (g : GoesOn set_id file read session) → Staged read g.generation g.point g.parts
      × (g.point.set_id ≡ set_id) × (g.point.file ≡ file) × StandsAt g.point g.parts session
  -- only zeros, or nothing, may be a new stage that was not completed, but no other byte in place
  -- of the first gate; and no stage is one, not even a damaged one
  pub unmade : (set_id : List ℕ) (file : ℕ) → IsUnmade set_id file []
      × IsUnmade set_id file (0 ∷ 0 ∷ []) × IsUnmade set_id file (67 ∷ [])
      × (IsUnmade set_id file (68 ∷ []) → ⊥)
  pub unmade_size : (set_id : List ℕ) (file : ℕ) → IsUnmade set_id file (replicate 257 0) → ⊥
  pub made : (set_id read : List ℕ) (file g : ℕ) (point : Point) (broken : Option ℕ)
      (parts : List Portion) → Remains read g point broken parts → IsUnmade set_id file read → ⊥
  -- bytes that are not a stage contain no staged data; if no slot is valid, nothing remains; and
  -- the reported bad frame is one
  pub fault_said : (set_id read : List ℕ) (file place : ℕ)
      → (Says set_id file read (staging.Stage stages.NoPoint) → HoldsNone read × RemainsNone read)
      × (Says set_id file read (staging.Stage (stages.BadFrame place))
      → HoldsNone read × IsBadPlace read place)
  -- a stage of another file does not represent a checkpoint of this one
  pub of_another : (set_id read : List ℕ) (file n : ℕ) (point : Point) (parts : List Portion)
      → Says set_id file read staging.OtherFile → Staged read n point parts
      → point.set_id ≡ set_id → point.file ≡ file → ⊥
  -- but it represents one: bytes that are not a stage are never reported as the stage of another
  -- file
  pub none_of_another : (set_id read : List ℕ) (file : ℕ) → HoldsNone read
      → Says set_id file read staging.OtherFile → ⊥
  -- stages of other sets and of other files belong to another file
  pub of_another_set : (set_id read : List ℕ) (file n : ℕ) (point : Point) (parts : List Portion)
      → Staged read n point parts → (point.set_id ≡ set_id → ⊥) ⊎ (point.file ≡ file → ⊥)
      → Says set_id file read staging.OtherFile
  -- bytes that are not a stage, or a disk for which there was no memory, were not opened
  pub unopened : IsUnopened (staging.Stage stages.NoPoint)
      × IsUnopened (staging.Stage (stages.BadFrame 300))
      × IsUnopened (staging.Stage stages.OutOfMemory)
  -- a stage whose disk failed may have been opened, and one of another file was
  pub opened : (IsUnopened (staging.Stage stages.Device) → ⊥) × (IsUnopened staging.OtherFile → ⊥)
  -- over an empty disk no session is refused for what the disk contains
  pub none_told : (RefusesBeginning 1 0 (staging.Stage stages.NoPoint) 1 → ⊥)
      × (RefusesBeginning 1 0 (staging.Stage (stages.BadFrame 300)) 1 → ⊥)
  pub too_many : RefusesBeginning 10000 0 staging.OtherFile 0
  pub file_one : RefusesBeginning 1 0 staging.OtherFile 0 → ⊥
  -- and only a disk that failed is said to have failed
  pub failed : FailsBy 3 (staging.Stage stages.Device) 4
      × RefusesBeginning 1 3 (staging.Stage stages.Device) 4
  pub not_failed : (FailsBy 3 (staging.Stage stages.Device) 3 → ⊥)
      × (RefusesBeginning 1 3 (staging.Stage stages.Device) 3 → ⊥)
  pub not_full : (FailsBy 3 (staging.Stage stages.Full) 4 → ⊥)
      × (FailsBy 3 (staging.Stage stages.Failed) 4 → ⊥)
