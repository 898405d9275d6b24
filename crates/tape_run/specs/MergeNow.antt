-- What `merge_now` leaves: all images opened, the merged one under the output's name, and the
-- report.
use Rattle.std.specs.Prelude.{◌≡◌, ◌≢◌, ◌⊎◌, ℕ, ◌+◌, ◌<◌, List, [], ◌∷◌, ◌++◌, length, map, Option}
use Rattle.std.specs.{Prelude.Some, Prelude.None, Prelude.⊤, List.flat_map, Io.KnownBytes.Appends}
use Rattle.tape_image.specs.{declared.item.Ending.Ending, Tape.TapeItem, Reader.ended}
use Rattle.tape_image.specs.{Begins.image_limit, Written.written, Written.AppendsFront}
use Rattle.tape_image.specs.declared.item.Ending.TheVariants as endings
use Rattle.tape_run.specs.{declared.merge.Merged.Merged, declared.merge.line.MergedEnd.MergedEnd}
use Rattle.tape_run.specs.declared.merge.line.MergedEnd.TheVariants.{Marked, Physical, Cut}
use Rattle.tape_run.specs.{declared.merge.now.MergeEnd.MergeEnd, Merging.IsMerged}
use Rattle.tape_run.specs.declared.merge.now.MergeEnd.TheVariants.{Whole, Partial, Differs}
use Rattle.tape_run.specs.{declared.merge.now.MergeStop.MergeStop, MergeSteps.AllStopped}
use Rattle.tape_run.specs.{declared.merge.reading.Reading.Reading, MergeCalls.Counts}
use Rattle.tape_run.specs.{Reeling.Mounting, Reeling.AreMounted, MergeLog.log_text}
use Rattle.tape_run.specs.MergeLines.{reading_line, has_line, lines_from, merged_line, differ_line}
use Rattle.tape_run.specs.MergedImages.{TakeImages, DifferImages}
use Rattle.tape_run.specs.declared.merge.now.MergeStop.TheVariants as stops

-- ---- the images of a source

-- the image exists, on this device
abbrev pub IsOn : {R : Type 0} → Option R → R → Type 0
IsOn image device = image ≡ Some device

-- every image of the source was opened, in order
pub record MountsAll {L R : Type 0} (size : L → ℕ) (gives : Mounting L R) (shelf left : L)
    (devices : List R) : Type 0 where
  pub mounted : AreMounted gives IsOn shelf 0 devices left
  pub all : length devices ≡ size shelf

-- the images before the one with this number were opened, and that one does not exist
pub record IsMissing {L R : Type 0} (gives : Mounting L R) (shelf left : L) (number : ℕ) : Type 0
  where
    pub devices : List R
    pub mid : L
    pub mounted : AreMounted gives IsOn shelf 0 devices mid
    pub before : length devices ≡ number
    pub missing : gives mid number None left

-- ---- the merged image

-- a reading with this number of items reached the given end of the medium
abbrev pub SomeEnds : {R : Type 0} → ℕ → Ending → List (Reading R) → Type 0
SomeEnds items ending [] = ⊥
SomeEnds items ending (r ∷ rs) =
    ((r.items ≡ items) × (r.image.status ≡ ended ending)) ⊎ SomeEnds items ending rs

-- The merged image has `items` items, and ends like a reading of that length: with an end-of-medium
-- marker if such a reading has one, otherwise at the end of its bytes if such a reading reached
-- that end. It is truncated if each of these readings stopped at a fault.
abbrev pub EndsAs : {R : Type 0} → ℕ → List (Reading R) → MergedEnd → Type 0
EndsAs items nows Marked = SomeEnds items endings.Marked nows
EndsAs items nows Physical =
    SomeEnds items endings.Physical nows × (SomeEnds items endings.Marked nows → ⊥)
EndsAs items nows Cut =
    (SomeEnds items endings.Physical nows → ⊥) × (SomeEnds items endings.Marked nows → ⊥)

-- the bytes after its items: an end-of-medium marker, or no bytes
abbrev pub end_bytes : MergedEnd → List ℕ
end_bytes Marked = 255 ∷ 255 ∷ 255 ∷ 255 ∷ []
end_bytes Physical = []
end_bytes Cut = []

-- It is complete if no item is bad, no section has a wrong count, and it is not truncated.
abbrev pub FitsEnd : ℕ → ℕ → MergedEnd → MergeEnd → Type 0
FitsEnd bad miscounted end Whole = (bad ≡ 0) × (miscounted ≡ 0) × (end ≢ Cut)
FitsEnd bad miscounted end Partial = (0 < bad) ⊎ ((0 < miscounted) ⊎ (end ≡ Cut))
FitsEnd bad miscounted end Differs = ⊥

-- The images were read to their ends. After what the output had before are the items of the least
-- tape of which they are readings, each in the encoding that is written, and perhaps an
-- end-of-medium marker. The log has the rows of its items. The report has a line for each image,
-- and one for the merged image.
pub record HoldsMerged (R : Type 0) (images names : List (List ℕ))
    (out stands : Option (List ℕ)) (logs says : List ℕ → Type 0) (end : MergeEnd) : Type 0 where
  pub nows : List (Reading R)
  pub readings : List (List TapeItem)
  pub have : TakeImages images nows readings
  pub stopped : AllStopped nows
  pub merged : List TapeItem
  pub is : IsMerged readings merged
  pub counts : Merged
  pub count : Counts readings merged counts
  pub ends : MergedEnd
  pub ends_as : EndsAs counts.items nows ends
  pub holds : Appends out stands (flat_map written merged ++ end_bytes ends)
  pub fits : FitsEnd counts.bad counts.miscounted ends end
  pub logged : logs (log_text names readings merged)
  pub lines : says (lines_from (reading_line names) 0 nows ++ merged_line counts ends)

-- The images differ. The report has a line for each image, the number of the first item at which
-- they differ, and a line for each image that reaches it.
pub record ReportsDiffering (R : Type 0) (images names : List (List ℕ))
    (says : List ℕ → Type 0) : Type 0 where
  pub nows : List (Reading R)
  pub number : ℕ
  pub differ : DifferImages images nows number
  pub lines : says (lines_from (reading_line names) 0 nows ++ differ_line number
      ++ lines_from (has_line names) 0 nows)

-- the result of merging images with these bytes
abbrev pub ComesTo : Type 0 → List (List ℕ) → List (List ℕ) → Option (List ℕ)
    → Option (List ℕ) → (List ℕ → Type 0) → (List ℕ → Type 0) → MergeEnd → Type 0
ComesTo R images names out stands logs says Whole =
    HoldsMerged R images names out stands logs says Whole
ComesTo R images names out stands logs says Partial =
    HoldsMerged R images names out stands logs says Partial
ComesTo R images names out stands logs says Differs = ReportsDiffering R images names says

-- The images have no merged image, since one that holds what was read of them would be too long:
-- `size` bytes of it fit, but not its next item, nor its end-of-medium marker.
pub record IsTooLong (R : Type 0) (images : List (List ℕ)) (size : ℕ) : Type 0 where
  pub nows : List (Reading R)
  pub readings : List (List TapeItem)
  pub have : TakeImages images nows readings
  pub merged : List TapeItem
  pub size_is : size ≡ length (flat_map written merged)
  pub next : List ℕ
  pub comes : ((x : TapeItem) × IsMerged readings (merged ++ x ∷ []) × (next ≡ written x))
      ⊎ (AllStopped nows × IsMerged readings merged × EndsAs (length merged) nows Marked
      × (next ≡ end_bytes Marked))
  pub long : image_limit < size + length next

-- All images of the shelf were mounted, and this holds of their bytes, if they are known.
pub record IfMounted {L R : Type 0} (size : L → ℕ) (gives : Mounting L R)
    (remaining : R → Option (List ℕ)) (shelf left : L) (holds : List (List ℕ) → Type 0) : Type 0
  where
    pub devices : List R
    pub mounts : MountsAll size gives shelf left devices
    pub comes : (images : List (List ℕ)) → map remaining devices ≡ map Some images → holds images

-- what is so if an image could not be opened, or if the merged image would be too long
abbrev pub Misses : (ℕ → Type 0) → (ℕ → Type 0) → MergeStop → Type 0
Misses missing long (stops.NotOpened number) = missing number
Misses missing long (stops.TooLong size) = long size
Misses missing long stops.OutOfMemory = ⊤
Misses missing long stops.WriteFailed = ⊤
Misses missing long stops.LogFailed = ⊤

-- Lines about so many readings were reported, or a prefix of them; or also lines about an item at
-- which they differ: none about a merged image. If the bytes of the images are known, the lines are
-- about what was read of them: all of it, of images that have a merged tape, or up to the item at
-- which they differ.
abbrev pub ReportsNoImage : Type 0 → ((List (List ℕ) → Type 0) → Type 0) → List (List ℕ) → ℕ
    → Option (List ℕ) → Option (List ℕ) → Type 0
ReportsNoImage R if_known names count old new = (nows : List (Reading R)) × (length nows ≡ count)
    × ((AppendsFront old new (lines_from (reading_line names) 0 nows)
    × if_known (λ images. (readings : List (List TapeItem)) × (merged : List TapeItem)
    × TakeImages images nows readings × AllStopped nows × IsMerged readings merged))
    ⊎ ((n : ℕ) × AppendsFront old new (lines_from (reading_line names) 0 nows ++ (differ_line n
    ++ lines_from (has_line names) 0 nows)) × if_known (λ images. DifferImages images nows n)))

-- Lines about so many readings and one about a merged image were reported, or a prefix of these.
abbrev pub ReportsImage : Type 0 → List (List ℕ) → ℕ → Option (List ℕ) → Option (List ℕ) → Type 0
ReportsImage R names count old new = (nows : List (Reading R)) × (length nows ≡ count)
    × (counts : Merged) × (ends : MergedEnd)
    × AppendsFront old new (lines_from (reading_line names) 0 nows ++ merged_line counts ends)

-- The output's place and the report after a fault: the place was not touched, and no merged image
-- is reported; or, if a write failed, what is there did not change, or the merged image is there.
abbrev pub LeavesPlace : {O : Type 0} → (O → Option (List ℕ)) → O → O → Type 0 → Type 0 → MergeStop
    → Type 0
LeavesPlace stands old new said made (stops.NotOpened number) = (new ≡ old) × said
LeavesPlace stands old new said made (stops.TooLong size) = (new ≡ old) × said
LeavesPlace stands old new said made stops.OutOfMemory = (new ≡ old) × said
LeavesPlace stands old new said made stops.LogFailed = (new ≡ old) × said
LeavesPlace stands old new said made stops.WriteFailed = ((stands new ≡ stands old) × said) ⊎ made
