-- Sessions over a stage.
use Rattle.std.specs.Prelude.{◌≡◌, ◌≤◌, ◌⊎◌, ℕ, List, get_or, length}
use Rattle.tape_blocks.specs.Block.{Portion}
use Rattle.tape_core.specs.{Crash.OnlyThis, Point.Point, Table.saved, Table.reader_of, Weight.Rose}
use Rattle.tape_core.specs.Known.{IsFileNumber}
use Rattle.tape_core.specs.declared.sink.PartSink as sinks
use Rattle.tape_run.specs.{CrashRuns.IsResumed, Seen.seen, SessionState.SessionState}
use Rattle.tape_stage.specs.Stages.{Holds, Returns, Survives, Returned, Survived, crashes_of}
use Rattle.tape_stage.specs.{Faults.SaysNone, Faults.IsNotDevice, Found.IsFaultOf}
use Rattle.tape_stage.specs.{Salvaged.RemainsNone, Moments.Untouched, declared.disk.Disk.Ghosts}
use Rattle.tape_stage.specs.Staged.{Staged, HoldsNone, KeepsStaged, new_slots}
use Rattle.tape_stage.specs.Stages.{OpensOver, RefusesCreating, RefusesChange}
use Rattle.tape_stage.specs.declared.stage.Stage.{Stage}
use Rattle.tape_stage.specs.declared.stage.StageFault.TheVariants.{Device, Failed, Full}
use Rattle.tape_tool.specs.declared.staging.StagingFault.{StagingFault}
use Rattle.tape_tool.specs.declared.staging.StagingFault.TheVariants as faults

-- the checkpoint is one of this file, of a set with this identifier
abbrev pub IsOfFile : List ℕ → ℕ → Point → Type 0
IsOfFile set_id file point = (point.set_id ≡ set_id) × (point.file ≡ file)

-- the checkpoint at the start of a file
abbrev pub first_point : List ℕ → ℕ → Point
first_point set_id file = saved (reader_of set_id file) 0

-- No slot is valid. There are at most 256 bytes, each of them zero or the byte at its offset of a
-- new stage of this file before the first gate is opened.
pub record IsUnmade (set_id : List ℕ) (file : ℕ) (bytes : List ℕ) : Type 0 where
  pub none : RemainsNone bytes
  pub few : length bytes ≤ 256
  pub each : (i : ℕ) → (get_or bytes i 0 ≡ 0)
      ⊎ (get_or bytes i 0 ≡ get_or (new_slots (first_point set_id file)) i 0)

-- a stage as a sink, which parts are put into
abbrev pub as_sink : {D : Type 0} {disk : Ghosts D} → sinks.Ghosts (Stage D disk)
as_sink = record {
  holds = Holds;
  weighs = λ s. s.weight;
  refusals = λ s. s.refused;
  refuses_change = RefusesChange;
  crashes = λ s. crashes_of s;
}

-- The session is at the checkpoint. Its stage contains exactly these parts. Whatever a crash leaves
-- of the stage, now or at any moment from now on, represents this checkpoint and these parts.
pub record StandsAt {D : Type 0} {disk : Ghosts D} (point : Point) (parts : List Portion)
    (session : SessionState (Stage D disk)) : Type 0 where
  pub resumed : IsResumed point parts (seen as_sink session parts)
  pub holds : Holds session.sink parts
  pub only : OnlyThis point parts (λ back there. Returns session.sink back there)
  pub survives : Survives session.sink
  pub since : OnlyThis point parts
      (λ back there. Returned session.sink (disk.moment session.sink.disk) back there)
  pub survived : Survived session.sink (disk.moment session.sink.disk)

-- The session is at the checkpoint that was read, with its parts, and this is one of the file.
pub record GoesOn {D : Type 0} {disk : Ghosts D} (set_id : List ℕ) (file : ℕ) (read : List ℕ)
    (session : SessionState (Stage D disk)) : Type 0 where
  pub generation : ℕ
  pub point : Point
  pub parts : List Portion
  pub staged : Staged read generation point parts
  pub of_file : IsOfFile set_id file point
  pub stands : StandsAt point parts session

-- The meaning of the fault for the bytes that were read: they represent nothing, since no slot is
-- valid or a frame is bad, or a checkpoint of another file or set.
abbrev pub Says : List ℕ → ℕ → List ℕ → StagingFault → Type 0
Says set_id file read (faults.Stage fault) = (SaysNone fault → HoldsNone read)
    × IsFaultOf read fault
Says set_id file read faults.OtherFile = (generation : ℕ) × (point : Point)
    × (parts : List Portion) × Staged read generation point parts
    × (IsOfFile set_id file point → ⊥)

-- No stage was opened, and the disk did not fail.
abbrev pub IsUnopened : StagingFault → Type 0
IsUnopened (faults.Stage fault) = IsNotDevice fault
IsUnopened faults.OtherFile = ⊥

-- What is left of a disk over which no session was opened. What the fault says about its bytes is
-- true, and the staged data are unchanged at any moment. Bytes that represent nothing were not
-- changed.
pub record RefusesSession {D : Type 0} (set_id : List ℕ) (file : ℕ) (disk : Ghosts D) (old : D)
    (fault : StagingFault) (new : D) : Type 0 where
  pub says : Says set_id file (disk.seen old) fault
  pub any_moment : OpensOver disk old new
  pub foreign : HoldsNone (disk.seen old) → Untouched disk old new
  pub kept : KeepsStaged (disk.seen old) (disk.seen new)

-- A stage that is opened or created is never full or failed, and Device is returned only if the
-- disk failed, given its counts of failures before and after the call.
abbrev pub FailsBy : ℕ → StagingFault → ℕ → Type 0
FailsBy old (faults.Stage Full) new = ⊥
FailsBy old (faults.Stage Failed) new = ⊥
FailsBy old (faults.Stage Device) new = Rose old new
FailsBy old _ new = Unit {0}

-- Why no session was begun over an empty disk: no file can have the number, there was no memory, or
-- the disk failed.
abbrev pub RefusesBeginning : ℕ → ℕ → StagingFault → ℕ → Type 0
RefusesBeginning file old (faults.Stage fault) new = RefusesCreating old fault new
RefusesBeginning file old faults.OtherFile new = IsFileNumber file → ⊥
