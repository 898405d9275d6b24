-- Merging, in terms of the bytes of images.
use Rattle.std.specs.Prelude.{◌≡◌, ◌⊎◌, ℕ, ◌+◌, List, [], ◌∷◌, ◌++◌, length, map, take}
use Rattle.std.specs.Prelude.{Some, ⊤}
use Rattle.tape_image.specs.{Tape.TapeItem, Begins.Stop, Begins.Begins, Begins.Walks}
use Rattle.tape_image.specs.Writer.{Writer, PutItems}
use Rattle.tape_run.specs.{declared.merge.MergeFault.MergeFault, MergeLaws.TakesAs}
use Rattle.tape_run.specs.{declared.merge.reading.Reading.Reading, Merging.IsMerged, Merging.Differ}
use Rattle.tape_run.specs.MergeSteps.{bads, block_length, AreUpTo, AreJudgedAt}
use Rattle.tape_run.specs.MergeCalls.{HasWritten, RefusesLast, StopsLogging}
use Rattle.tape_run.specs.declared.merge.MergeFault.TheVariants as faults

-- The fields record where the last item of the image begins, and its length.
pub data LastIsAt {R : Type 0} (bytes : List ℕ) (now : Reading R) (items : List TapeItem) : Type 0
  where
    no_item : items ≡ [] → LastIsAt bytes now items
    last_item : (before : List TapeItem) (x : TapeItem) (rest : List ℕ) → items ≡ before ++ x ∷ []
        → Walks 0 bytes before now.from rest → now.length ≡ block_length x
        → LastIsAt bytes now items

-- The reading took these items from the beginning of an image with these bytes, and its reader has
-- the rest: it continues, or is at the end of the medium or at a fault. If its device failed, the
-- items are those of the bytes that it returned. The fields count the items.
pub record TakesImage {R : Type 0} (bytes : List ℕ) (now : Reading R) (taken : List TapeItem)
    : Type 0 where
  pub left : List ℕ
  pub is_left : now.image.left ≡ Some left
  pub takes : TakesAs 0 now.image.status taken now.image.place bytes left
  pub items : now.items ≡ length taken
  pub bad : now.bad ≡ bads taken
  pub last : LastIsAt bytes now taken

-- so did each reading
abbrev pub TakeImages : {R : Type 0} → List (List ℕ) → List (Reading R) → List (List TapeItem)
    → Type 0
TakeImages [] [] [] = ⊤
TakeImages (bytes ∷ images) (n ∷ nows) (r ∷ readings) =
    TakesImage bytes n r × TakeImages images nows readings
TakeImages _ _ _ = ⊥

-- the bytes of each image begin with these items, and with no further item
abbrev pub AllBegin : List (List ℕ) → List (List TapeItem) → Type 0
AllBegin [] [] = ⊤
AllBegin (bytes ∷ images) (r ∷ readings) =
    ((end : ℕ) × (stop : Stop) × Begins 0 bytes r end stop) × AllBegin images readings
AllBegin _ _ = ⊥

-- There is no tape of which the images are readings. They were read up to the n-th item, at which
-- they differ; each reading says how its item compares with the others. The items before that one
-- make a tape.
pub record DifferImages {R : Type 0} (images : List (List ℕ)) (nows : List (Reading R)) (n : ℕ)
    : Type 0 where
  pub readings : List (List TapeItem)
  pub have : TakeImages images nows readings
  pub up_to : AreUpTo n nows readings
  pub differ : Differ readings
  pub for_good : (all : List (List TapeItem)) → AllBegin images all → Differ all
  pub merged : List TapeItem
  pub judged : AreJudgedAt (length merged) nows readings
  pub is : IsMerged (map (take (length merged)) readings) merged
  pub count : length merged + 1 ≡ n

-- The items before a difference were written. If memory ran out nothing was written, or the items
-- of the merged tape of what was read up to some item. A write fails because the merged image would
-- be too long, or because the device fails; the log only if it gets a row.
abbrev pub FaultsImages : {R : Type 0} → List (List ℕ) → List (Reading R) → Writer → Writer
    → MergeFault → Type 0
FaultsImages images nows old new (faults.Differ n) =
    (d : DifferImages images nows n) × PutItems d.merged old new
FaultsImages {R = R} images nows old new faults.OutOfMemory =
    (new ≡ old) ⊎ HasWritten {R = R} (TakeImages images) old new
FaultsImages images nows old new faults.Log = StopsLogging (TakeImages images nows) old new
FaultsImages images nows old new (faults.Write fault) =
    RefusesLast (TakeImages images nows) fault old new
