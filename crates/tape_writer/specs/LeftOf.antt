-- The contents of the tapes if a set could not be written from inputs: when no volume is left, and
-- whatever the fault.
use Rattle.std.specs.Prelude.{List, length, ◌++◌, ◌+◌, ◌≡◌, ◌⊎◌, ℕ, IfSome, Option, []}
use Rattle.std.specs.List.{AllByRecursion}
use Rattle.tape_label.specs.declared.values.Head1.{Head1}
use Rattle.tape_blocks.specs.declared.parts.Shape.{Shape}
use Rattle.tape_writer.specs.Front.{IsInLast, IsLeftBehind, IsLeftInside, IsLeftWhole}
use Rattle.tape_writer.specs.ToldFiles.{IfAllKnown, InOne, told_files, with_records}
use Rattle.tape_writer.specs.{declared.fault.SetFault.SetFault, declared.inputs.set.SetPlan.SetPlan}
use Rattle.tape_writer.specs.{declared.fault.SetFault.TheVariants.Write}
use Rattle.tape_writer.specs.{declared.inputs.cut.Cut.Cut, Records.IsFirstLong, Records.records_of}
use Rattle.tape_writer.specs.{State.IsOutOfVolumes, State.SetState, Tapes.Tapes, Told.Told}
use Rattle.tape_writer.specs.{Told.with_file, WriteFaults.IsOfInput, WriteSet.cut_of}
use Rattle.tape_writer.specs.{declared.fault.WriteFault.TheVariants.OutOfMemory}

-- The writer has no volume left, after a prefix of the given records was passed after the files
-- `told`: either the last of these records was refused, or the end of the file after it.
pub record GaveUp {T : Type 0} (H : Tapes → Type 0) (w : SetState T) (told : List Told)
    (records : List (List ℕ)) : Type 0 where
  pub front : List (List ℕ)
  pub back : List (List ℕ)
  pub split : records ≡ front ++ back
  pub out : IsOutOfVolumes H w (with_records told front)

-- the writer has no volume left for one of the files of the given inputs, of which a prefix of its
-- records was passed
abbrev pub GaveUpIn : {T : Type 0} → (Tapes → Type 0) → SetState T → List ℕ → List Told → Shape
    → Cut → List (Head1 × Option (List ℕ)) → Type 0
GaveUpIn H w set_id told shape cut inputs = InOne set_id told shape cut inputs
    (λ past head bytes. GaveUp H w (with_file set_id past head shape) (records_of cut bytes))

-- A writer of the plan, to which nothing was passed before, wrote to tapes that satisfy P, and Q
-- holds for it.
pub record WroteBy {T : Type 0} (P : T → Type 0) (plan : SetPlan) (Q : SetState T → Type 0)
    : Type 0 where
  pub writer : SetState T
  pub on_tapes : P writer.out
  pub on_volumes : writer.volumes ≡ plan.volumes.items
  pub capacity : writer.capacity ≡ plan.capacity
  pub set_id : writer.set_id ≡ plan.set_id
  pub holds : Q writer

-- no volume is left for a set
abbrev pub GaveUpSet : {T : Type 0} → (T → Tapes → Type 0) → (T → Type 0) → SetPlan → Cut
    → List (Head1 × Option (List ℕ)) → Type 0
GaveUpSet H P plan cut inputs =
    WroteBy P plan (λ w. GaveUpIn (H w.out) w plan.set_id [] plan.shape cut inputs)

-- the plan has no volume, or its last volume has no room for the next block, or the end of a file,
-- of the inputs
abbrev pub HasNoVolume : {T : Type 0} → (T → Tapes → Type 0) → (T → Type 0) → SetPlan
    → List (Head1 × Option (List ℕ)) → Type 0
HasNoVolume H P plan inputs = (length plan.volumes.items ≡ 0)
    ⊎ IfSome (cut_of plan.form plan.shape) (λ cut. GaveUpSet H P plan cut inputs)

-- A prefix of the given records was passed after the files `told`, and the tapes contain a prefix
-- of the items written for them: inside the file, or at its end if no record is left. `OutOfMemory`
-- is possible only if an allocation of the tapes failed, as G says, or at a record that is longer
-- than all records before it, since shorter records fit in the buffer. If an input failed, all
-- these items are on the tapes.
pub record IsLeftOf {T : Type 0} (H : Tapes → Type 0) (w : SetState T) (G : Type 0)
    (fault : SetFault) (told : List Told) (records : List (List ℕ)) : Type 0 where
  pub front : List (List ℕ)
  pub back : List (List ℕ)
  pub split : records ≡ front ++ back
  pub memory : fault ≡ Write OutOfMemory
      → G ⊎ AllByRecursion (λ r. IsFirstLong (length r) back) front
  pub left : IsLeftInside H w (with_records told front)
      ⊎ ((back ≡ []) × IsLeftBehind H w (with_records told front))
  pub all : IsOfInput fault
      → IsInLast H w.volumes w.capacity w.set_id (with_records told front)

-- the writer refused to begin a file after the files passed
abbrev pub IsLeftUnbegun : {T : Type 0} → (Tapes → Type 0) → SetState T → SetFault → List Told
    → Type 0
IsLeftUnbegun H w fault told = (IsOfInput fault → ⊥) × IsLeftBehind H w told

-- the state after a fault in one of the files of the given inputs: that file did not begin, or a
-- prefix of its records was passed
abbrev pub IsLeftIn : {T : Type 0} → (Tapes → Type 0) → SetState T → Type 0 → SetFault → List ℕ
    → List Told → Shape → Cut → List (Head1 × Option (List ℕ)) → Type 0
IsLeftIn H w G fault set_id told shape cut inputs = InOne set_id told shape cut inputs
    (λ past head bytes. IsLeftUnbegun H w fault past
    ⊎ IsLeftOf H w G fault (with_file set_id past head shape) (records_of cut bytes))

-- the same in one of the files, or at the end of the set after them, where only the tapes allocate
abbrev pub IsLeftOfAll : {T : Type 0} → (Tapes → Type 0) → SetState T → Type 0 → SetFault → List ℕ
    → List Told → Shape → Cut → List (Head1 × Option (List ℕ)) → Type 0
IsLeftOfAll H w G fault set_id told shape cut inputs =
    IsLeftIn H w G fault set_id told shape cut inputs
    ⊎ (fault ≡ Write OutOfMemory → G) × (IsOfInput fault → ⊥) × IfAllKnown inputs (λ fs.
    IsLeftBehind H w (told ++ told_files set_id shape cut (length told + 1) fs)
    ⊎ IsLeftWhole H w (told ++ told_files set_id shape cut (length told + 1) fs))

-- the state after a fault in a set, on tapes that do not allocate
abbrev pub IsLeftSet : {T : Type 0} → (T → Tapes → Type 0) → (T → Type 0) → SetFault → SetPlan
    → Cut → List (Head1 × Option (List ℕ)) → Type 0
IsLeftSet H P fault plan cut inputs = WroteBy P plan
    (λ w. IsLeftOfAll (H w.out) w ⊥ fault plan.set_id [] plan.shape cut inputs)
