-- What the calls of merging do.
use Rattle.std.specs.Prelude.{[], ◌∷◌, ◌++◌, ◌≡◌, ℕ, zero, suc, ◌+◌, ◌==◌, Bool, true, false, List}
use Rattle.std.specs.Prelude.{length, map, take, Option, Some, None, Err, ⊤}
use Rattle.std.specs.Io.KnownBytes.{Appends}
use Rattle.tape_image.specs.{Tape.TapeItem, Tape.block, Tape.bad, Tape.mark, Reader.going}
use Rattle.tape_image.specs.{declared.item.ImageWriteFault.ImageWriteFault, Written.written}
use Rattle.tape_image.specs.Writer.{Writer, writing, PutsFrom, BlockFrom, PutItem, PutItems}
use Rattle.tape_run.specs.MergeSteps.{bads, one_if, column, goods_in, HaveTaken, AllStopped}
use Rattle.tape_run.specs.{declared.merge.candidate.Kind.Kind, declared.merge.MergeFault.MergeFault}
use Rattle.tape_run.specs.declared.merge.candidate.Kind.TheVariants.{Nothing, Bad, Mark, Block}
use Rattle.tape_run.specs.{declared.merge.reading.Reading.Reading, declared.merge.Merged.Merged}
use Rattle.tape_run.specs.{declared.merge.reading.Verdict.Verdict, Passing.Told, Passing.told_from}
use Rattle.tape_run.specs.declared.section.SectionState.{SectionState}
use Rattle.tape_run.specs.declared.passing.Phase.TheVariants.{Volume}
use Rattle.tape_run.specs.{Merging.IsMerged, Merging.Differ, MergeLog.is_logged, MergeLog.log_rows}
use Rattle.tape_run.specs.MergeSteps.{AreUpTo, AreJudgedAt}
use Rattle.tape_run.specs.declared.merge.reading.Verdict.TheVariants as verdicts
use Rattle.tape_run.specs.declared.merge.MergeFault.TheVariants as faults
use Rattle.tape_run.specs.declared.section.SectionState.TheVariants as states

-- the item of this kind and content
abbrev pub candidate_of : Kind → List ℕ → Option TapeItem
candidate_of Nothing content = None
candidate_of Bad content = Some bad
candidate_of Mark content = Some mark
candidate_of Block content = Some (block content)

-- ---- the counts of the merged items

-- the number of readings that could read the item at an index
abbrev pub witnesses_at : ℕ → List (List TapeItem) → ℕ
witnesses_at j rs = goods_in (column j rs)

-- the number of items, among the first, that only one reading could read
abbrev pub alone_in : ℕ → List (List TapeItem) → ℕ
alone_in zero rs = 0
alone_in (suc n) rs = alone_in n rs + one_if (witnesses_at n rs == 1)

-- the section's trailer label gives a different number of blocks
abbrev pub has_wrong_count : SectionState → ℕ
has_wrong_count states.Good = 0
has_wrong_count states.Bad = 0
has_wrong_count states.Count = 1
has_wrong_count states.Cut = 0

abbrev pub miscounted_of : Option Told → ℕ
miscounted_of None = 0
miscounted_of (Some t) = has_wrong_count t.1.state

-- the number of sections with a wrong count
abbrev pub miscounted_in : List Told → ℕ
miscounted_in [] = 0
miscounted_in (t ∷ ts) = has_wrong_count t.1.state + miscounted_in ts

-- the counts of items merged from readings; the sections are those that `check` reports
pub record Counts (readings : List (List TapeItem)) (merged : List TapeItem) (m : Merged) : Type 0
  where
    pub items : length merged ≡ m.items
    pub bad : m.bad ≡ bads merged
    pub alone : m.alone ≡ alone_in (length merged) readings
    pub miscounted : m.miscounted ≡ miscounted_in (told_from Volume merged)

-- ---- calls

-- 1 if the reading could read the best item
abbrev pub has_first : Verdict → ℕ
has_first verdicts.First = 1
has_first verdicts.Bad = 0
has_first verdicts.Second = 0
has_first verdicts.Third = 0
has_first verdicts.Ended = 0
has_first (verdicts.Failed fault) = 0

-- the number of readings that have the item
abbrev pub firsts_in : {R : Type 0} → List (Reading R) → ℕ
firsts_in [] = 0
firsts_in (r ∷ rs) = has_first r.verdict + firsts_in rs

-- the writer refused the item for this cause
abbrev pub Refuses : TapeItem → ImageWriteFault → Writer → Writer → Type 0
Refuses (block content) fault old new = BlockFrom old.standing content old (Err fault) new
Refuses bad fault old new = PutsFrom old.standing (written bad) writing old (Err fault) new
Refuses mark fault old new = PutsFrom old.standing (written mark) writing old (Err fault) new

-- there is an item, and it was refused
abbrev pub RefusesCandidate : Option TapeItem → ImageWriteFault → Writer → Writer → Type 0
RefusesCandidate None fault old new = ⊥
RefusesCandidate (Some x) fault old new = Refuses x fault old new

-- the item was written, unless there is none
abbrev pub Puts : Option TapeItem → Bool → Writer → Writer → Type 0
Puts None some old new = (some ≡ false) × (new ≡ old)
Puts (Some x) some old new = (some ≡ true) × PutItem x old new

-- The readings were read to their ends, and the items of the least tape of which they are readings
-- were written and counted. The log has the rows of these items.
pub record Merges {R : Type 0} (taken : List (List TapeItem) → Type 0) (nows : List (Reading R))
    (m : Merged) (old new : Writer) (log logged : Option (List ℕ)) : Type 0 where
  pub readings : List (List TapeItem)
  pub have : taken readings
  pub ended : AllStopped nows
  pub merged : List TapeItem
  pub is : IsMerged readings merged
  pub count : Counts readings merged m
  pub wrote : PutItems merged old new
  pub rows : Appends log logged (log_rows 0 merged readings)

-- There is no tape of which the items that were read are readings. Each reading was read up to the
-- n-th item; its verdict says how its item compares with the others. The items before that one make
-- a tape, which was written.
pub record DiffersAt {R : Type 0} (firsts nows : List (Reading R)) (n : ℕ) (old new : Writer)
    : Type 0 where
  pub readings : List (List TapeItem)
  pub have : HaveTaken firsts nows readings
  pub up_to : AreUpTo n nows readings
  pub differ : Differ readings
  pub merged : List TapeItem
  pub judged : AreJudgedAt (length merged) nows readings
  pub is : IsMerged (map (take (length merged)) readings) merged
  pub count : length merged + 1 ≡ n
  pub wrote : PutItems merged old new

-- Up to some item there was such a tape, and its items were written.
pub record HasWritten {R : Type 0} (have : List (Reading R) → List (List TapeItem) → Type 0)
    (old new : Writer) : Type 0 where
  pub mids : List (Reading R)
  pub fronts : List (List TapeItem)
  pub had : have mids fronts
  pub merged : List TapeItem
  pub is : IsMerged fronts merged
  pub wrote : PutItems merged old new

-- Of the merged tape of what was read, each item but the last was written. The writer refused the
-- last one, since the image would be too long or the device failed.
pub record RefusesLast (have : List (List TapeItem) → Type 0) (fault : ImageWriteFault)
    (old new : Writer) : Type 0 where
  pub readings : List (List TapeItem)
  pub taken : have readings
  pub merged : List TapeItem
  pub x : TapeItem
  pub is : IsMerged readings (merged ++ x ∷ [])
  pub mid : Writer
  pub wrote : PutItems merged old mid
  pub refused : PutsFrom writing (written x) writing mid (Err fault) new

-- The merged tape of what was read was written, and its last item has a row in the log.
pub record StopsLogging (have : List (List TapeItem) → Type 0) (old new : Writer) : Type 0 where
  pub readings : List (List TapeItem)
  pub taken : have readings
  pub merged : List TapeItem
  pub x : TapeItem
  pub is : IsMerged readings (merged ++ x ∷ [])
  pub wrote : PutItems (merged ++ x ∷ []) old new
  pub due : is_logged (column (length merged) readings) ≡ true

-- the properties after each fault
abbrev pub FitsFault : {R : Type 0} → List (Reading R) → List (Reading R) → Writer → Writer
    → MergeFault → Type 0
FitsFault firsts nows old new (faults.Differ n) = DiffersAt firsts nows n old new
FitsFault firsts nows old new faults.OutOfMemory = HasWritten (HaveTaken firsts) old new
FitsFault firsts nows old new faults.Log = StopsLogging (HaveTaken firsts nows) old new
FitsFault firsts nows old new (faults.Write fault) =
    RefusesLast (HaveTaken firsts nows) fault old new

-- The readings are at the beginning of images with these bytes, if those are known.
abbrev pub AreAtFront : {R : Type 0} → List (Option (List ℕ)) → List (Reading R) → Type 0
AreAtFront [] [] = ⊤
AreAtFront (bytes ∷ more) (r ∷ rs) =
    (r.image.left ≡ bytes) × (r.image.status ≡ going) × (r.image.place ≡ 0)
    × (r.items ≡ 0) × (r.bad ≡ 0) × AreAtFront more rs
AreAtFront _ _ = ⊥

-- this holds of the bytes of the images that the readings are at the beginning of, if all are known
abbrev pub IfImages : {R : Type 0} → List (Reading R) → (List (List ℕ) → Type 0) → Type 0
IfImages firsts holds = (images : List (List ℕ)) → AreAtFront (map Some images) firsts
    → holds images
