-- The state of a stage and of a reader of its parts, once a part is no longer borrowed.
use Rattle.std.specs.Prelude.{◌≡◌, ◌-◌, [], true, List, OnErr, OnOk, Option, Result}
use Rattle.std.specs.{Borrow.Fml, Borrow.RattleType, Borrow.MutBor, Io.BufRead.Rests}
use mir.Syntax.{named}
use Rattle.tape_stage.specs.Stages.{Holds, IsAhead, LendsNone, crashes_of, SameStage}
use Rattle.tape_stage.specs.{declared.disk.Disk.Ghosts, declared.stage.Stage.Stage}
use Rattle.tape_stage.specs.{OnlyReading.OnlyReads, contracts.stage.Stage.the_row as stage_row}
use Rattle.tape_stage.specs.declared.stage.part_reader.PartReader.{PartReader}
use Rattle.tape_stage.specs.contracts.stage.part_reader.PartReader.{the_row}
use Rattle.tape_core.specs.{Walks.HasGiven, declared.sink.SinkFault.SinkFault, Weight.Rose}
use Rattle.tape_blocks.specs.{declared.parts.Part.Part, Block.Portion}

-- The stage returned its next part, or refused the call. Its disk was only read, and is honest if
-- it was before. The disk failed only if the call was refused; and then it did, if the parts to
-- come are known and the stage can still be read.
pub record StageGave {D : Type 0} {disk : Ghosts D} (old : Stage D disk)
    (result : Result (Option Part) SinkFault) (new : Stage D disk) : Type 0 where
  pub gave : HasGiven (λ s parts. Holds s parts) (λ s. s.weight) (λ s. s.refused)
      (λ s. crashes_of s) (λ s parts. IsAhead s parts) (λ s. s.weight - s.walked)
      (λ s fault t. LendsNone disk s.readable s.walked s.weight s.disk fault t.disk) old result new
  pub same : SameStage old new
  pub reads : OnlyReads disk old.disk new.disk
  pub honest : disk.is_honest old.disk → disk.is_honest new.disk
  pub calm : OnOk result (disk.faults new.disk ≡ disk.faults old.disk)
  pub fails : (parts : List Portion) → IsAhead old parts → old.readable ≡ true
      → OnErr result (Rose (disk.faults old.disk) (disk.faults new.disk))

abbrev pub GivesAs : (S : RattleType) (g : Ghosts S.Denot) → MutBor (Stage S.Denot g)
    → Result (Option Part) SinkFault → Fml
GivesAs S g stage result = Rests (stage_row S g) stage (λ new. StageGave stage.now result new)

-- the reader reads the same stage, which returned its next part or refused the call
pub record HasRead {D : Type 0} {disk : Ghosts D} (old : PartReader D disk)
    (result : Result (Option Part) SinkFault) (new : PartReader D disk) : Type 0 where
  pub same_stage : new.stage.ghost_name ≡ old.stage.ghost_name
  pub gave : StageGave old.stage.now result new.stage.now

abbrev pub ReadsAs : (S : RattleType) (g : Ghosts S.Denot) → MutBor (PartReader S.Denot g)
    → Result (Option Part) SinkFault → Fml
ReadsAs S g reader result = Rests (the_row (record { mir = named 0; lft = [] }) S g) reader
    (λ new. HasRead reader.now result new)
