-- The contents of the tapes after a call that was interrupted by a refusal: a prefix of the items
-- that it was to write, and nothing else.
use Rattle.std.specs.Prelude.{List, ℕ, ◌++◌, ◌∷◌, ◌≡◌, ◌⊎◌, []}
use Rattle.tape_image.specs.Tape.{TapeItem}
use Rattle.tape_label.specs.declared.values.Vol1.{Vol1}
use Rattle.tape_blocks.specs.Packing.{Packing}
use Rattle.tape_set.specs.Layout.{Section}
use Rattle.tape_writer.specs.Inside.{IsFlat, IsInside, IsPacking, IsWaiting}
use Rattle.tape_writer.specs.Tapes.{Tapes, UnderWay, all_volumes, Ended}
use Rattle.tape_writer.specs.{declared.course.Course.Course, declared.course.Opened.Opened}
use Rattle.tape_writer.specs.{State.SetState, Told.AreFiled, Told.IsWrittenSet, Told.Told}

-- a step on tapes: an item is appended to the current volume, the next volume begins, or the last
-- volume ends
pub data Step : Type 0 where
  Item : (item : TapeItem) → Step
  Change : Step
  Close : Step

-- the tapes after a step
abbrev pub behind_step : Step → Tapes → Tapes
behind_step (Item item) (UnderWay volumes items) = UnderWay volumes (items ++ item ∷ [])
behind_step (Item item) (Ended volumes) = Ended volumes
behind_step Change tapes = UnderWay (all_volumes tapes) []
behind_step Close tapes = Ended (all_volumes tapes)

-- the tapes after several steps
abbrev pub behind_steps : List Step → Tapes → Tapes
behind_steps [] tapes = tapes
behind_steps (s ∷ steps) tapes = behind_steps steps (behind_step s tapes)

-- The tapes contain a prefix of `whole`: further steps lead to it.
pub record HoldsFront (H : Tapes → Type 0) (whole : Tapes) : Type 0 where
  pub now : Tapes
  pub held : H now
  pub steps : List Step
  pub leads : behind_steps steps now ≡ whole

-- The writer is in the middle of the last of the records.
pub record IsMidRecord (H : Tapes → Type 0) (volumes : List Vol1) (capacity : ℕ) (set_id : List ℕ)
    (file : Opened) (course : Course) (fs : List (List Section)) (records : List (List ℕ))
    : Type 0 where
  pub packer : Packing
  pub before : List (List ℕ)
  pub whole : List ℕ
  pub rest : List ℕ
  pub split : records ≡ before ++ whole ∷ []
  pub packing : IsPacking H volumes capacity set_id file course packer fs before whole rest

-- inside a file, after the finished files fs and the records passed: some of them may be in the
-- current block, the last one in part, or all may be in blocks
abbrev pub IsPartly : (Tapes → Type 0) → List Vol1 → ℕ → List ℕ → Opened → Course
    → List (List Section) → List (List ℕ) → Type 0
IsPartly H volumes capacity set_id file course fs records =
    ((packer : Packing) × IsInside H volumes capacity set_id file course packer fs records)
    ⊎ (IsMidRecord H volumes capacity set_id file course fs records
    ⊎ IsFlat H volumes capacity set_id file course fs records)

-- The writer is inside the last of the files passed.
pub record IsInLast (H : Tapes → Type 0) (volumes : List Vol1) (capacity : ℕ) (set_id : List ℕ)
    (told : List Told) : Type 0 where
  pub past : List Told
  pub last : Told
  pub is_told : told ≡ past ++ last ∷ []
  pub files : List (List Section)
  pub filed : AreFiled capacity past files
  pub course : Course
  pub partly : IsPartly H volumes capacity set_id last.file course files last.records

-- ---- contents that remain: the volumes that ended, and a prefix of the current one

-- the tapes contain a prefix of the items inside the last of the files passed
abbrev pub IsLeftInside : {T : Type 0} → (Tapes → Type 0) → SetState T → List Told → Type 0
IsLeftInside H w told = IsInLast (HoldsFront H) w.volumes w.capacity w.set_id told

-- the tapes contain a prefix of the items after the files passed have ended
abbrev pub IsLeftBehind : {T : Type 0} → (Tapes → Type 0) → SetState T → List Told → Type 0
IsLeftBehind H w told =
    (course : Course) × IsWaiting (HoldsFront H) w.volumes w.capacity w.set_id course told

-- the tapes contain a prefix of the complete set of the files passed
abbrev pub IsLeftWhole : {T : Type 0} → (Tapes → Type 0) → SetState T → List Told → Type 0
IsLeftWhole H w told = IsWrittenSet (HoldsFront H) w.volumes w.capacity w.set_id told
