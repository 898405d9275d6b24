-- A set writer as its callers see it, and its invariant after files were passed.
use Rattle.std.specs.Prelude.{length, ℕ, ◌≡◌, Err, Result, [], ◌++◌, ◌+◌, ◌∷◌, ◌⊎◌, List, false}
use Rattle.std.specs.{List.AllByRecursion, Prelude.map, Prelude.◌≤◌}
use Rattle.tape_label.specs.{declared.values.Vol1.Vol1, Widths.IsWideVolume}
use Rattle.tape_blocks.specs.Packing.{HasRecordLength}
use Rattle.tape_set.specs.{Layout.Section, Tight.least_capacity}
use Rattle.tape_writer.specs.declared.phase.Phase.TheVariants.{Failed, Finished, Between, Filing}
use Rattle.tape_writer.specs.{declared.course.Course.Course, declared.course.Opened.Opened}
use Rattle.tape_writer.specs.{declared.fault.WriteFault.TheVariants.Device}
use Rattle.tape_writer.specs.{declared.fault.WriteFault.TheVariants.OutOfVolumes}
use Rattle.tape_writer.specs.{declared.fault.WriteFault.TheVariants.OutOfMemory}
use Rattle.tape_writer.specs.{declared.fault.WriteFault.WriteFault, declared.phase.Phase.Phase}
use Rattle.tape_writer.specs.{declared.out.TapeOut.Ghosts, declared.phase.OpenFile.OpenFile}
use Rattle.tape_writer.specs.{declared.tape.Tape.Tape, Draft.IsRoomy, Inside.IsFiling}
use Rattle.tape_writer.specs.{Inside.IsStuck, Inside.IsWaiting, Labels.IsReady, Tapes.Tapes}
use Rattle.tape_writer.specs.{Tapes.WasAsked, Told.AreFiled, Told.Told, Told.IsWrittenSet}

-- A writer: its output, the volumes and their capacity, the set's identifier, the files begun so
-- far, the position on the volumes, and the phase.
pub record SetState (T : Type 0) : Type 0 where
  pub out : T
  pub volumes : List Vol1
  pub capacity : ℕ
  pub set_id : List ℕ
  pub files : List Opened
  pub course : Course
  pub phase : Phase

-- the output of the writer, and its position
abbrev pub tape_of : {T : Type 0} → SetState T → Tape T
tape_of w = record { out = w.out; course = w.course }

-- the current volume was requested with its own label
abbrev pub HasAsked : {T : Type 0} → Ghosts T → SetState T → Type 0
HasAsked g w = WasAsked (g.asked w.out) w.volumes w.course.volume

-- the volumes, their capacity and the set's identifier are unchanged
abbrev pub SameSet : {T : Type 0} → SetState T → SetState T → Type 0
SameSet old new = (new.volumes ≡ old.volumes) × (new.capacity ≡ old.capacity)
    × (new.set_id ≡ old.set_id)

-- ---- the tapes contain the files passed

-- The writer is inside the last of the files passed.
pub record IsFilingLast (H : Tapes → Type 0) (volumes : List Vol1) (capacity : ℕ) (set_id : List ℕ)
    (course : Course) (o : OpenFile) (told : List Told) : Type 0 where
  pub past : List Told
  pub records : List (List ℕ)
  pub is_told : told ≡ past ++ record { file = o.file; records = records } ∷ []
  pub filing : IsFiling H volumes capacity set_id o.file course o.packer past records

-- the contents of the tapes in each phase, after the given files and records were passed
abbrev pub Stands : (Tapes → Type 0) → List Vol1 → ℕ → List ℕ → Course → Phase → List Told → Type 0
Stands H volumes capacity set_id course Between told =
    IsWaiting H volumes capacity set_id course told
Stands H volumes capacity set_id course (Filing o) told =
    IsFilingLast H volumes capacity set_id course o told
Stands H volumes capacity set_id course Failed told = ⊥
Stands H volumes capacity set_id course Finished told = IsWrittenSet H volumes capacity set_id told

-- The given files were passed to the writer: it keeps their heads and shapes, and the tapes contain
-- them.
pub record IsWriting {T : Type 0} (H : Tapes → Type 0) (w : SetState T) (told : List Told)
    : Type 0 where
  pub kept : w.files ≡ map (λ t. t.file) told
  pub stands : Stands H w.volumes w.capacity w.set_id w.course w.phase told

-- ---- faults

-- the effect of a refusal: the writer failed if the fault ends it, and is unchanged otherwise
abbrev pub Leaves : {T : Type 0} → SetState T → SetState T → WriteFault → Type 0
Leaves old new OutOfVolumes = new.phase ≡ Failed
Leaves old new Device = new.phase ≡ Failed
Leaves old new OutOfMemory = new.phase ≡ Failed
Leaves old new _ = new ≡ old

-- the call returns the fault, and nothing changes
abbrev pub Refuses : {T : Type 0} → SetState T → Result (Unit {0}) WriteFault → SetState T
    → WriteFault → Type 0
Refuses old result new fault = (result ≡ Err fault) × (new ≡ old)

-- inside a file, P holds for the open file
abbrev pub IfFiling : Phase → (OpenFile → Type 0) → Type 0
IfFiling (Filing o) P = P o
IfFiling _ P = Unit {0}

-- the record has one of the lengths of the file's shape
abbrev pub HasLength : OpenFile → List ℕ → Type 0
HasLength o bytes = HasRecordLength o.file.shape.format o.file.shape.rec_len (length bytes)

-- The writer has no volume left for the last of the files passed: the other files are complete, and
-- the next block of the last file, or its end, does not fit. The tapes contain no closing labels of
-- that file.
pub record IsOutOfVolumes {T : Type 0} (H : Tapes → Type 0) (w : SetState T) (told : List Told)
    : Type 0 where
  pub past : List Told
  pub last : Told
  pub is_told : told ≡ past ++ last ∷ []
  pub files : List (List Section)
  pub filed : AreFiled w.capacity past files
  pub stuck : IsStuck H w.volumes w.capacity w.set_id last.file w.course files last.records

-- ---- the type's invariant, whatever the tapes contain

-- Inside a file the next call is possible.
pub record IsSoundOpen (volumes : List Vol1) (capacity : ℕ) (course : Course) (o : OpenFile)
    : Type 0 where
  pub ready : IsReady o.file
  pub shape : o.packer.shape ≡ o.file.shape
  pub opened : o.packer.closed ≡ false
  pub ended : o.packer.begun ≡ false
  pub room : least_capacity o.file.shape ≤ capacity
  pub roomy : IsRoomy capacity (length volumes) course

-- the next file fits on the current volume, or no volume has begun
abbrev pub IsSoundRest : List Vol1 → ℕ → Course → Type 0
IsSoundRest volumes capacity course = (course.volume ≡ 0)
    ⊎ ((course.used + 372 ≤ capacity) × (course.volume ≤ length volumes) × (1 ≤ course.volume)
    × (1024 ≤ capacity))

-- the same in each phase
abbrev pub IsSoundIn : List Vol1 → ℕ → Course → Phase → Type 0
IsSoundIn volumes capacity course Between = IsSoundRest volumes capacity course
IsSoundIn volumes capacity course (Filing o) = IsSoundOpen volumes capacity course o
IsSoundIn volumes capacity course Failed = Unit {0}
IsSoundIn volumes capacity course Finished = Unit {0}

-- The volumes' labels can be written, there are between 1 and 9,999 volumes, and the next call is
-- possible.
pub record IsSound (volumes : List Vol1) (capacity : ℕ) (course : Course) (phase : Phase)
    : Type 0 where
  pub wide : AllByRecursion IsWideVolume volumes
  pub some : 1 ≤ length volumes
  pub many : length volumes ≤ 9999
  pub in_phase : IsSoundIn volumes capacity course phase
