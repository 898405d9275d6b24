-- The contents and states of a stage.
use Rattle.std.specs.Prelude.{◌≡◌, ◌⊎◌, ℕ, ◌+◌, ◌<◌, ◌≤◌, Bool, true, false, not, List, Option}
use Rattle.std.specs.Prelude.{None, Result, OnOk, IfErr, IsErrOf, Some}
use Rattle.tape_stage.specs.Staged.{Staged, StandsLike, Holding, HoldsNone, KeepsStaged, Ready}
use Rattle.tape_stage.specs.declared.stage.StageFault.TheVariants.{Device, Full, Failed}
use Rattle.tape_stage.specs.{Staged.NamedIn, Staged.SameFrames, Moments.Passes, Moments.Untouched}
use Rattle.tape_stage.specs.{declared.stage.StageFault.TheVariants.OutOfMemory, Parts.longest_part}
use Rattle.tape_stage.specs.{declared.disk.Disk.Ghosts, Found.IsFaultOf, declared.stage.Stage.Stage}
use Rattle.tape_stage.specs.{Body.most_generation, OnlyReading.OnlyReads, Salvaged.RemainsNone}
use Rattle.tape_stage.specs.Faults.{IsNotDevice, OnBadFrame, SaysNone}
use Rattle.tape_stage.specs.{Parts.AheadIn, Parts.NoFrameAt, declared.stage.StageFault.StageFault}
use Rattle.tape_blocks.specs.Block.{Portion}
use Rattle.tape_core.specs.{Crash.Crashes, Known.most_staged, Stands.weight_of, Weight.Rose}
use Rattle.tape_core.specs.{declared.sink.SinkFault.SinkFault, Point.Point}
use Rattle.tape_core.specs.declared.sink.SinkFault.TheVariants as sink

-- The state of a stage is unchanged; the position of its walk, its buffer, its count of refused
-- calls and its disk may differ.
abbrev pub SameStage : {D : Type 0} {disk : Ghosts D} → Stage D disk → Stage D disk → Type 0
SameStage old new = (new.acknowledged ≡ old.acknowledged) × (new.pending ≡ old.pending)
    × (new.weight ≡ old.weight) × (new.failed ≡ old.failed) × (new.readable ≡ old.readable)
    × (new.generation ≡ old.generation) × (new.in_second ≡ old.in_second)
    × (new.other_open ≡ old.other_open)

-- the stage is unchanged, except for its buffer and its count of refused calls
abbrev pub OnlyCounts : {D : Type 0} {disk : Ghosts D} → Stage D disk → Stage D disk → Type 0
OnlyCounts old new = SameStage old new × (new.disk ≡ old.disk) × (new.walked ≡ old.walked)

-- the parts are staged, and the first of them are acknowledged
pub record IsStaged {D : Type 0} (disk : Ghosts D) (at : D) (in_second : Bool) (generation : ℕ)
    (point : Point) (other_open : Bool) (weight : ℕ) (failed : Bool)
    (acked parts : List Portion) : Type 0 where
  pub alive : failed ≡ false
  pub ready : Ready in_second generation point acked other_open (disk.seen at) (disk.may_leave at)
  pub holds : Holding weight parts (disk.seen at)
  pub behind : point.staged ≤ weight

abbrev pub IsStage : {D : Type 0} {disk : Ghosts D} → Stage D disk → List Portion → List Portion
    → Type 0
IsStage {D} {disk} stage acked parts = IsStaged disk stage.disk stage.in_second stage.generation
    stage.acknowledged stage.other_open stage.weight stage.failed acked parts

-- The parts have frames on an honest disk, unless it failed while a checkpoint was being saved; and
-- the acknowledged parts are ready, unless the stage failed.
pub record AreHeld {D : Type 0} (disk : Ghosts D) (at : D) (in_second : Bool) (generation : ℕ)
    (point : Point) (other_open : Bool) (weight : ℕ) (failed : Bool) (pending : Option Point)
    (parts : List Portion) : Type 0 where
  pub honest : pending ≡ None → disk.is_honest at
  pub framed : Holding weight parts (disk.seen at)
  pub weighs : weight ≡ weight_of parts
  pub ready : failed ≡ false → (acked : List Portion)
      × IsStaged disk at in_second generation point other_open weight failed acked parts

-- the stage contains the given parts
abbrev pub Holds : {D : Type 0} {disk : Ghosts D} → Stage D disk → List Portion → Type 0
Holds {D} {disk} stage parts = AreHeld disk stage.disk stage.in_second stage.generation
    stage.acknowledged stage.other_open stage.weight stage.failed stage.pending parts

-- the given parts are still to come
abbrev pub IsAhead : {D : Type 0} {disk : Ghosts D} → Stage D disk → List Portion → Type 0
IsAhead {D} {disk} stage parts = (stage.pending ≡ None → disk.is_honest stage.disk)
    × AheadIn (256 + stage.walked) (256 + stage.weight) (disk.seen stage.disk) parts

-- Why no part is returned after frames of weight `walked`: the disk failed, in the call or in an
-- earlier change, or there is no frame.
abbrev pub LendsNone : {D : Type 0} → Ghosts D → Bool → ℕ → ℕ → D → SinkFault → D → Type 0
LendsNone disk readable walked weight old sink.Device new = Rose (disk.faults old) (disk.faults new)
LendsNone disk readable walked weight old sink.Failed new = (readable ≡ false)
    ⊎ (disk.is_honest old → NoFrameAt (256 + walked) (256 + weight) (disk.seen old))
LendsNone disk readable walked weight old _ new = ⊥

-- Why a change is refused, and what is left: the disk failed in the call, and the stage, which had
-- not failed before, has failed; or it had failed before, or there is no room for a part, or no
-- generation for a checkpoint, and only the refusal is counted.
abbrev pub RefusesChange : {D : Type 0} {disk : Ghosts D} → Stage D disk → SinkFault → Stage D disk
    → Type 0
RefusesChange {D} {disk} old sink.Device new = Rose (disk.faults old.disk) (disk.faults new.disk)
    × (old.failed ≡ false) × (new.failed ≡ true)
RefusesChange old sink.Failed new = (old.failed ≡ true) × OnlyCounts old new
RefusesChange old sink.Full new = ((most_staged < old.weight + (5 + longest_part))
    ⊎ (most_generation ≤ old.generation)) × OnlyCounts old new
RefusesChange old sink.OutOfMemory new = ⊥

-- The checkpoint is acknowledged, as the next generation. Whatever a crash leaves now names it, and
-- has the frames before it.
pub record HasNamed {D : Type 0} {disk : Ghosts D} (point : Point) (old new : Stage D disk)
    : Type 0 where
  pub acknowledged : new.acknowledged ≡ point
  pub pending : new.pending ≡ None
  pub slot : new.in_second ≡ not old.in_second
  pub generation : new.generation ≡ old.generation + 1
  pub names : disk.is_honest old.disk → (acked parts : List Portion) → IsStage old acked parts
      → (bytes : List ℕ) → disk.may_leave new.disk bytes
      → NamedIn (not old.in_second) (old.generation + 1) point bytes
      × SameFrames point.staged (disk.seen old.disk) bytes

-- the disk failed while the checkpoint was being saved: it is pending, and the generation before it
-- is still the acknowledged one
abbrev pub IsPending : {D : Type 0} {disk : Ghosts D} → Point → Stage D disk → Stage D disk → Type 0
IsPending point old new = (new.pending ≡ Some point) × (new.acknowledged ≡ old.acknowledged)
    × (new.in_second ≡ old.in_second) × (new.generation ≡ old.generation)

-- the state of a stage after a call was refused: failed if the disk failed, otherwise unchanged
abbrev pub HasRefused : {D : Type 0} {disk : Ghosts D} → Stage D disk → Stage D disk → StageFault
    → Type 0
HasRefused old new Device = (old.failed ≡ false) × (new.failed ≡ true) × (new.weight ≡ old.weight)
HasRefused old new Full = new ≡ old
HasRefused old new Failed = (new ≡ old) × (old.failed ≡ true)
HasRefused old new _ = ⊥

-- How a call ends: with Ok only if the stage had not failed, and on a disk as honest as before; the
-- stage can then be used as before. Otherwise refused as in `HasRefused`, with Device only if the
-- disk failed. No disk becomes honest, and the count of refused calls of the sink is unchanged.
pub record EndsCall {A D : Type 0} {disk : Ghosts D} (old : Stage D disk)
    (result : Result A StageFault) (new : Stage D disk) : Type 0 where
  pub was_alive : OnOk result (old.failed ≡ false)
  pub usable : OnOk result ((new.failed ≡ false) × (new.readable ≡ old.readable))
  pub refused : IfErr result (HasRefused old new)
  pub refusals : new.refused ≡ old.refused
  pub cause : IsErrOf result Device → Rose (disk.faults old.disk) (disk.faults new.disk)
  pub honest : OnOk result (disk.is_honest old.disk → disk.is_honest new.disk)
  pub back : disk.is_honest new.disk → disk.is_honest old.disk

-- How opening or creating a stage ends: never with Full or Failed, with Device only if the disk
-- failed, and with Ok on a disk as honest as before. No disk becomes honest.
pub record EndsFinding {A D : Type 0} (disk : Ghosts D) (old : D) (result : Result A StageFault)
    (new : D) : Type 0 where
  pub not_full : IsErrOf result Full → ⊥
  pub not_failed : IsErrOf result Failed → ⊥
  pub cause : IsErrOf result Device → Rose (disk.faults old) (disk.faults new)
  pub honest : OnOk result (disk.is_honest old → disk.is_honest new)
  pub back : disk.is_honest new → disk.is_honest old

-- the effect of crashes on a stage on the given disk
abbrev pub crashes_on : {D : Type 0} → Ghosts D → D → Crashes
crashes_on disk at = record {
  returns = λ back there. (bytes : List ℕ) × disk.may_leave at bytes
      × ((g : ℕ) × Staged bytes g back there);
  survives = (bytes : List ℕ) → disk.may_leave at bytes → (g : ℕ) × (point : Point)
      × (parts : List Portion) × Staged bytes g point parts;
  moment = disk.moment at;
  returned = λ t back there. (bytes : List ℕ) × (disk.left_since at t bytes
      ⊎ disk.may_leave at bytes) × ((g : ℕ) × Staged bytes g back there);
  survived = λ t. (bytes : List ℕ) → disk.left_since at t bytes ⊎ disk.may_leave at bytes
      → (g : ℕ) × (point : Point) × (parts : List Portion) × Staged bytes g point parts;
}

-- the effect of crashes on a stage
abbrev pub crashes_of : {D : Type 0} {disk : Ghosts D} → Stage D disk → Crashes
crashes_of {D} {disk} stage = crashes_on disk stage.disk

-- a crash now may leave a file that represents the given checkpoint and parts
abbrev pub Returns : {D : Type 0} {disk : Ghosts D} → Stage D disk → Point → List Portion → Type 0
Returns stage = (crashes_of stage).returns

-- each file that a crash now may leave represents some checkpoint and parts
abbrev pub Survives : {D : Type 0} {disk : Ghosts D} → Stage D disk → Type 0
Survives stage = (crashes_of stage).survives

-- a crash now, or at any moment since t, may have left a file that represents the given checkpoint
-- and parts
abbrev pub Returned : {D : Type 0} {disk : Ghosts D} → Stage D disk → ℕ → Point → List Portion
    → Type 0
Returned stage = (crashes_of stage).returned

-- each file that such a crash may have left represents some checkpoint and parts
abbrev pub Survived : {D : Type 0} {disk : Ghosts D} → Stage D disk → ℕ → Type 0
Survived stage = (crashes_of stage).survived

-- A crash at any moment between the two disks left contents that were possible before, or contents
-- that represent the same as those that were read.
abbrev pub OpensOver : {D : Type 0} → Ghosts D → D → D → Type 0
OpensOver disk old new = Passes disk old new
    (λ c. disk.may_leave old c ⊎ StandsLike (disk.seen old) c)

-- Why a stage was not opened for reading: no slot is valid, there was no memory, or the disk
-- failed. The disk was only read.
pub record RefusesReading {D : Type 0} (disk : Ghosts D) (old : D) (fault : StageFault)
    (new : D) : Type 0 where
  pub none : disk.is_honest old → SaysNone fault → RemainsNone (disk.seen old)
  pub no_frame : OnBadFrame fault (λ place. ⊥)
  pub not_full : fault ≡ Full → ⊥
  pub not_failed : fault ≡ Failed → ⊥
  pub cause : fault ≡ Device → Rose (disk.faults old) (disk.faults new)
  pub reads : OnlyReads disk old new

-- Why a stage was not opened, and what is left on its disk. What the fault says about the disk is
-- true, and the staged data are unchanged at any moment. Unless the disk failed, and in any case if
-- it contains no stage, it was only read.
pub record RefusesOpening {D : Type 0} (disk : Ghosts D) (old : D) (fault : StageFault)
    (new : D) : Type 0 where
  pub none : disk.is_honest old → SaysNone fault → HoldsNone (disk.seen old)
  pub says : disk.is_honest old → IsFaultOf (disk.seen old) fault
  pub not_full : fault ≡ Full → ⊥
  pub not_failed : fault ≡ Failed → ⊥
  pub cause : fault ≡ Device → Rose (disk.faults old) (disk.faults new)
  pub any_moment : disk.is_honest old → OpensOver disk old new
  pub kept : disk.is_honest old → KeepsStaged (disk.seen old) (disk.seen new)
  pub untouched : disk.is_honest old → IsNotDevice fault → Untouched disk old new
  pub foreign : disk.is_honest old → HoldsNone (disk.seen old) → Untouched disk old new
  pub same_length : IsNotDevice fault → disk.length_of new ≡ disk.length_of old

-- Why no stage was created, given the disk's counts of failures before and after the call: there
-- was no memory, or the disk failed.
abbrev pub RefusesCreating : ℕ → StageFault → ℕ → Type 0
RefusesCreating old OutOfMemory new = Unit {0}
RefusesCreating old Device new = Rose old new
RefusesCreating old _ new = ⊥
