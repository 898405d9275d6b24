-- The state of the writer inside a file and between two files: the contents of the tapes, and the
-- files and records passed so far.
use Rattle.std.specs.Prelude.{[], ℕ, ◌∷◌, None, ◌≡◌, ◌≤◌, ◌⊎◌, false, length, map, ◌≢◌, List, ◌++◌}
use Rattle.std.specs.List.{AllByRecursion}
use Rattle.tape_label.specs.declared.values.Vol1.{Vol1}
use Rattle.tape_blocks.specs.{Run.AreClosed, Run.RunOf, Run.Going, Tight.first_len, Tight.Filled}
use Rattle.tape_blocks.specs.{Tight.parts_of_all, Spans.join, Spans.InOrder, Records.AreRecordsOf}
use Rattle.tape_blocks.specs.{declared.parts.Shape.Shape, Packing.Packing, Packing.Given}
use Rattle.tape_blocks.specs.{Block.Portion}
use Rattle.tape_set.specs.{Layout.Section, Tight.takes_next}
use Rattle.tape_writer.specs.Draft.{Draft, IsOpen, IsResting, Within, ended_volumes, open_items}
use Rattle.tape_writer.specs.{Draft.open_blocks, declared.course.Opened.Opened}
use Rattle.tape_writer.specs.{declared.out.TapeOut.Ghosts, declared.tape.Tape.Tape}
use Rattle.tape_writer.specs.{declared.phase.OpenFile.OpenFile, Tapes.Ended, Tapes.Tapes}
use Rattle.tape_writer.specs.{Tapes.UnderWay, Told.AreFiled, Told.Told, Told.labelled}
use Rattle.tape_writer.specs.{declared.course.Course.Course}
use Rattle.tape_blocks.specs.Tight as packing

-- Inside a file, after the finished files fs, the given records were passed.
pub record IsInside (H : Tapes → Type 0) (volumes : List Vol1) (capacity : ℕ) (set_id : List ℕ)
    (file : Opened) (course : Course) (p : Packing) (fs : List (List Section))
    (records : List (List ℕ)) : Type 0 where
  pub draft : Draft
  pub is_open : IsOpen H volumes capacity set_id file course draft
  pub files : draft.files ≡ fs
  pub shape : p.shape ≡ file.shape
  pub ended : p.begun ≡ false
  pub run : RunOf (open_blocks draft) p records
  pub lengths : AreRecordsOf file.shape records

-- In the middle of the record `whole`, its rest `rest` is still to be packed.
pub record IsPacking (H : Tapes → Type 0) (volumes : List Vol1) (capacity : ℕ) (set_id : List ℕ)
    (file : Opened) (course : Course) (p : Packing) (fs : List (List Section))
    (records : List (List ℕ)) (whole rest : List ℕ) : Type 0 where
  pub draft : Draft
  pub is_open : IsOpen H volumes capacity set_id file course draft
  pub files : draft.files ≡ fs
  pub shape : p.shape ≡ file.shape
  pub going : Going (open_blocks draft) p records whole rest
  pub lengths : AreRecordsOf file.shape records

-- The blocks `next` may be written on the current volume: the draft has the same blocks as d.
pub record HasPlace (H : Tapes → Type 0) (volumes : List Vol1) (capacity : ℕ) (set_id : List ℕ)
    (file : Opened) (course : Course) (next : List Filled) (d : Draft) : Type 0 where
  pub draft : Draft
  pub within : Within (map labelled volumes) capacity set_id file course (draft.blocks ++ next)
      draft
  pub held : H (UnderWay (ended_volumes (map labelled volumes) draft)
      (open_items (map labelled volumes) file course draft))
  pub files : draft.files ≡ d.files
  pub blocks : open_blocks draft ≡ open_blocks d

-- The current block was written.
pub record Flushed (H : Tapes → Type 0) (volumes : List Vol1) (capacity : ℕ) (set_id : List ℕ)
    (file : Opened) (course : Course) (d : Draft) (p : Packing) : Type 0 where
  pub draft : Draft
  pub text : List ℕ
  pub given : Given p text
  pub is_open : IsOpen H volumes capacity set_id file course draft
  pub files : draft.files ≡ d.files
  pub blocks : open_blocks draft ≡ open_blocks d ++ record { bytes = text; parts = p.parts } ∷ []

-- Inside a file, all its records are in blocks.
pub record IsFlat (H : Tapes → Type 0) (volumes : List Vol1) (capacity : ℕ) (set_id : List ℕ)
    (file : Opened) (course : Course) (fs : List (List Section)) (records : List (List ℕ))
    : Type 0 where
  pub draft : Draft
  pub is_open : IsOpen H volumes capacity set_id file course draft
  pub files : draft.files ≡ fs
  pub tight : packing.IsTight file.shape records (open_blocks draft)
  pub lengths : AreRecordsOf file.shape records

-- Between two files, the given files were passed.
pub record IsBetween (H : Tapes → Type 0) (volumes : List Vol1) (capacity : ℕ) (set_id : List ℕ)
    (course : Course) (told : List Told) : Type 0 where
  pub draft : Draft
  pub resting : IsResting H volumes capacity set_id course draft
  pub filed : AreFiled capacity told draft.files

-- Inside a file, the files before it and the given records were passed.
pub record IsFiling (H : Tapes → Type 0) (volumes : List Vol1) (capacity : ℕ) (set_id : List ℕ)
    (file : Opened) (course : Course) (p : Packing) (past : List Told) (records : List (List ℕ))
    : Type 0 where
  pub files : List (List Section)
  pub filed : AreFiled capacity past files
  pub inside : IsInside H volumes capacity set_id file course p files records

-- before the first file, when the tapes are empty, or between two files
abbrev pub IsWaiting : (Tapes → Type 0) → List Vol1 → ℕ → List ℕ → Course → List Told → Type 0
IsWaiting H volumes capacity set_id course told =
    ((course.volume ≡ 0) × H (Ended []) × (told ≡ []))
    ⊎ (IsBetween H volumes capacity set_id course told × (told ≢ []))

-- The given blocks and the next block are a prefix of the records, packed in the shape: each block
-- is one that is written, they are as full as the rules of packing require, and with the parts
-- after them they join to exactly the records. `next` is one block or, if all records are in the
-- blocks, empty.
pub record Continues (shape : Shape) (records : List (List ℕ)) (blocks next : List Filled)
    : Type 0 where
  pub each : AllByRecursion (packing.IsWritten shape) (blocks ++ next)
  pub behind : List Portion
  pub joins : join (parts_of_all (blocks ++ next) ++ behind)
      ≡ record { records = records; rest = None }
  pub order : InOrder false (parts_of_all (blocks ++ next) ++ behind) false
  pub chain : packing.Chain (packing.IsDue shape) (blocks ++ next)
  pub full : behind ≢ [] → AreClosed shape (blocks ++ next) (first_len behind 0)
  pub most : length next ≤ 1
  pub ends : next ≡ [] → behind ≡ []

-- The volume must be changed, but no volume is left: after the finished files fs the current volume
-- contains an open section with its data blocks and without a trailer, and the rule for the change
-- of volumes refuses the next block of the records.
pub record IsStuck (H : Tapes → Type 0) (volumes : List Vol1) (capacity : ℕ) (set_id : List ℕ)
    (file : Opened) (course : Course) (fs : List (List Section)) (records : List (List ℕ))
    : Type 0 where
  pub draft : Draft
  pub is_open : IsOpen H volumes capacity set_id file course draft
  pub files : draft.files ≡ fs
  pub none_left : length volumes ≤ course.volume
  pub next : List Filled
  pub of_records : Continues file.shape records (open_blocks draft) next
  pub due : takes_next capacity course.used next ≡ false

-- The volume has no room for the packer's current block, and no volume is left.
pub record IsLeftOut (volumes capacity : ℕ) (course : Course) (p : Packing) : Type 0 where
  pub text : List ℕ
  pub given : Given p text
  pub none_left : volumes ≤ course.volume
  pub due : takes_next capacity course.used (record { bytes = text; parts = p.parts } ∷ []) ≡ false

-- ---- the tapes before a call

-- if the tapes contain a draft inside the file, P holds for the set's identifier and the draft
abbrev pub IfOpen : {T : Type 0} → Ghosts T → List Vol1 → ℕ → Opened → Tape T
    → (List ℕ → Draft → Type 0) → Type 0
IfOpen g volumes capacity file tape P = (set_id : List ℕ) (d : Draft)
    → IsOpen (g.holds tape.out) volumes capacity set_id file tape.course d → P set_id d

-- if the tapes are inside the open file, P holds for the set's identifier, the finished files and
-- the records passed
abbrev pub IfInside : {T : Type 0} → Ghosts T → List Vol1 → ℕ → Tape T → OpenFile
    → (List ℕ → List (List Section) → List (List ℕ) → Type 0) → Type 0
IfInside g volumes capacity tape o P =
    (set_id : List ℕ) (fs : List (List Section)) (records : List (List ℕ))
    → IsInside (g.holds tape.out) volumes capacity set_id o.file tape.course o.packer fs records
    → P set_id fs records
