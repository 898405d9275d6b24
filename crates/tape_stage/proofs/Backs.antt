-- The remains of a stage after a crash.
use Rattle.std.proofs.Common.{◌≡◌, ◌⊎◌, inl, inr, ℕ, ◌+◌, ◌≤◌, Bool, false, List, ◌∙◌}
use Rattle.tape_stage.specs.Stages.{IsStage, Returns, Survives, Returned, Survived, HasRefused}
use Rattle.tape_stage.specs.declared.stage.StageFault.TheVariants.{NoPoint, BadFrame, Device}
use Rattle.tape_stage.specs.Staged.{Staged, StagedIn, IsEither, Ready}
use Rattle.tape_stage.specs.Stages.{crashes_of, crashes_on}
use Rattle.tape_stage.specs.{declared.disk.Disk.Ghosts, Moments.Passes}
use Rattle.tape_stage.specs.declared.stage.StageFault.TheVariants.{OutOfMemory, Failed, Full}
use Rattle.tape_stage.specs.{declared.stage.Stage.Stage, declared.stage.StageFault.StageFault}
use Rattle.tape_blocks.specs.Block.{Portion}
use Rattle.tape_core.specs.{Crash.AddsNothing, Crash.AddsOnly, Crash.IsThis, Point.Point}
use Rattle.tape_core.proofs.Crashes.{only_same}
use Rattle.tape_stage.proofs.{Tears.staged_named, SlotSteps.ready_each, Once.staged_once}
use Rattle.tape_core.specs.Crash as crash

-- the bytes represent something
pub in_stands : (second : Bool) (g : ℕ) (point : Point) (parts : List Portion) (bytes : List ℕ)
    → StagedIn second g point parts bytes → (h : ℕ) × (back : Point) × (there : List Portion)
    × Staged bytes h back there
in_stands second g point parts bytes is = (g, point, parts, staged_named _ _ _ _ _ is)

pub either_stands : (second : Bool) (g : ℕ) (point next : Point) (parts more : List Portion)
    (bytes : List ℕ) → IsEither second g point next parts more bytes
    → (h : ℕ) × (back : Point) × (there : List Portion) × Staged bytes h back there
either_stands second g point next parts more bytes (inl was) = in_stands _ _ _ _ _ was
either_stands second g point next parts more bytes (inr new) = in_stands _ _ _ _ _ new

-- a stage that was just opened or created survives a crash
pub ready_survives : (seen : List ℕ) (may_leave : List ℕ → Type 0) (second : Bool) (g : ℕ)
    (point : Point) (other_open : Bool) (parts : List Portion)
    → Ready second g point parts other_open seen may_leave → (bytes : List ℕ) → may_leave bytes
    → (h : ℕ) × (back : Point) × (there : List Portion) × Staged bytes h back there
ready_survives seen may_leave second g point other_open parts ready bytes left =
    in_stands _ _ _ _ _ (ready_each _ _ _ _ _ _ _ bytes ready left).0

pub ready_returns : (seen : List ℕ) (may_leave : List ℕ → Type 0) (second : Bool) (g : ℕ)
    (point : Point) (other_open : Bool) (parts : List Portion) → Ready second g point parts
    other_open seen may_leave → (back : Point) (there : List Portion) → (bytes : List ℕ)
    × may_leave bytes × ((h : ℕ) × Staged bytes h back there) → (back ≡ point) × (there ≡ parts)
ready_returns seen may_leave second g point other_open parts ready back there r =
    let each = (ready_each _ _ _ _ _ _ _ r.0 ready r.1).0 in
    let same = staged_once r.0 r.2.0 g back point there parts r.2.1 (staged_named _ _ _ _ _ each) in
    (same.1, same.2)

module _ {D : Type 0} {disk : Ghosts D} where
  returns_as : (stage : Stage D disk) (point back : Point) (parts there : List Portion)
      → back ≡ point → there ≡ parts → Returns stage point parts → Returns stage back there
  returns_as stage point back parts there points lists is = rw (points, lists) is

  -- the acknowledged data may be left
  acked_returns : (stage : Stage D disk) (acked parts : List Portion) → disk.may_leave stage.disk
      (disk.seen stage.disk) → IsStage stage acked parts → Returns stage stage.acknowledged acked
  acked_returns stage acked parts now is = (
    disk.seen stage.disk,
    now,
    (
      stage.generation,
      staged_named _ _ _ _ _ is.ready.staged,
    ),
  )

  -- a file that represents the acknowledged data
  pub returned_old : (old : Stage D disk) (acked parts : List Portion) (bytes : List ℕ) (g : ℕ)
      (back : Point) (there : List Portion) → disk.may_leave old.disk (disk.seen old.disk)
      → IsStage old acked parts → StagedIn old.in_second old.generation old.acknowledged acked bytes
      → Staged bytes g back there → Returns old back there
  returned_old old acked parts bytes g back there now is was staged =
      let same = staged_once bytes g old.generation back old.acknowledged there acked staged
      (staged_named _ _ _ _ _ was) in
      returns_as old _ _ _ _ same.1 same.2 (acked_returns old acked parts now is)

  -- a file that represents the acknowledged data, or the next checkpoint
  pub returned : (old : Stage D disk) (acked parts front : List Portion) (next : Point)
      (bytes : List ℕ) (g : ℕ) (back : Point) (there : List Portion) → disk.may_leave old.disk
      (disk.seen old.disk) → IsStage old acked parts
      → IsEither old.in_second old.generation old.acknowledged next acked front bytes
      → Staged bytes g back there → Returns old back there ⊎ ((back ≡ next) × (there ≡ front))
  returned old acked parts front next bytes g back there now is (inl was) staged =
      inl (returned_old old _ parts _ _ _ _ now is was staged)
  returned old acked parts front next bytes g back there now is (inr new) staged =
      let same = staged_once bytes g (old.generation + 1) back next there front staged
      (staged_named _ _ _ _ _ new) in
      inr (same.1, same.2)

  -- only the saved checkpoint may be left
  pub returned_kept : (stage : Stage D disk) (parts : List Portion) (point back : Point)
      (there : List Portion) → IsStage stage parts parts → stage.acknowledged ≡ point
      → Returns stage back there → (back ≡ point) × (there ≡ parts)
  returned_kept stage parts point back there is kept r =
      let each = (ready_each _ _ _ _ _ _ _ r.0 is.ready r.1).0 in
      let same = staged_once r.0 r.2.0 stage.generation back stage.acknowledged there parts r.2.1
      (staged_named _ _ _ _ _ each) in
      (same.1 ∙ kept, same.2)

  -- contents that might have returned since this moment may return now
  pub returned_now : (stage : Stage D disk) → disk.is_honest stage.disk
      → ((c : List ℕ) → disk.is_honest stage.disk
      → disk.left_since stage.disk (disk.moment stage.disk) c → disk.may_leave stage.disk c)
      → (back : Point) (there : List Portion)
      → Returned stage (disk.moment stage.disk) back there → Returns stage back there
  returned_now stage honest only back there (bytes, inl left, is) =
      (bytes, only bytes honest left, is)
  returned_now stage honest only back there (bytes, inr left, is) = (bytes, left, is)

  pub survived_now : (stage : Stage D disk) → disk.is_honest stage.disk
      → ((c : List ℕ) → disk.is_honest stage.disk
      → disk.left_since stage.disk (disk.moment stage.disk) c → disk.may_leave stage.disk c)
      → Survives stage → Survived stage (disk.moment stage.disk)
  survived_now stage honest only survives bytes (inl left) = survives bytes (only bytes honest left)
  survived_now stage honest only survives bytes (inr left) = survives bytes left

  -- ---- the contents that a call adds

  -- contents that may return now might have returned since an earlier moment
  also_since : (stage : Stage D disk) (t : ℕ) (back : Point) (there : List Portion) (Q : Type 0)
      → Returns stage back there ⊎ Q → Returned stage t back there ⊎ Q
  also_since stage t back there Q (inl (bytes, left, is)) = inl (bytes, inr left, is)
  also_since stage t back there Q (inr q) = inr q

  -- if the meaning of each file left during a call is known, so are the contents that the call adds
  pub adds_passed : (old : Stage D disk) (new : D) (these : crash.Returns) (P : List ℕ → Type 0)
      → Passes disk old.disk new P
      → ((bytes : List ℕ) (g : ℕ) (back : Point) (there : List Portion) → P bytes
      → Staged bytes g back there → Returns old back there ⊎ these back there)
      → (Survives old → (bytes : List ℕ) → P bytes → (g : ℕ) × (point : Point)
      × (parts : List Portion) × Staged bytes g point parts)
      → AddsOnly these (crashes_of old) (crashes_on disk new)
  adds_passed old new these P passes among stands = record {
    now = λ back there (bytes, left, (g, staged)).
        among bytes g back there (passes.now bytes left) staged;
    later = passes.later;
    since = since;
    survives = λ before bytes left. stands before bytes (passes.now bytes left);
    survived = survived;
  }
    where
      was : (t : ℕ) (back : Point) (there : List Portion) (bytes : List ℕ) (g : ℕ)
          → Staged bytes g back there → disk.left_since old.disk t bytes ⊎ P bytes
          → Returned old t back there ⊎ these back there
      was t back there bytes g staged (inl left) = inl (bytes, inl left, (g, staged))
      was t back there bytes g staged (inr p) =
          also_since old t back there (these back there) (among bytes g back there p staged)

      since : (t : ℕ) (back : Point) (there : List Portion) → t ≤ disk.moment old.disk
          → (crashes_on disk new).returned t back there
          → Returned old t back there ⊎ these back there
      since t back there le (bytes, inl left, (g, staged)) =
          was t back there bytes g staged (passes.before t bytes le left)
      since t back there le (bytes, inr left, (g, staged)) =
          was t back there bytes g staged (inr (passes.now bytes left))

      stood : (t : ℕ) (bytes : List ℕ) → Survived old t → disk.left_since old.disk t bytes ⊎ P bytes
          → (g : ℕ) × (point : Point) × (parts : List Portion) × Staged bytes g point parts
      stood t bytes before (inl left) = before bytes (inl left)
      stood t bytes before (inr p) = stands (λ c left. before c (inr left)) bytes p

      survived : (t : ℕ) → t ≤ disk.moment old.disk → Survived old t
          → (crashes_on disk new).survived t
      survived t le before bytes (inl left) = stood t bytes before (passes.before t bytes le left)
      survived t le before bytes (inr left) = stood t bytes before (inr (passes.now bytes left))

  -- a call that leaves the acknowledged data
  pub adds_nothing : (old : Stage D disk) (new : D) (acked parts : List Portion)
      → disk.may_leave old.disk (disk.seen old.disk) → IsStage old acked parts
      → Passes disk old.disk new (StagedIn old.in_second old.generation old.acknowledged acked)
      → AddsNothing (crashes_of old) (crashes_on disk new)
  adds_nothing old new acked parts now is passes = adds_passed old _ (λ back there. ⊥) _ passes
      (λ bytes g back there was staged. inl (returned_old old _ parts _ _ _ _ now is was staged))
      (λ before bytes was. in_stands _ _ _ _ _ was)

  -- a call that leaves the acknowledged data unchanged, or acknowledges the given data
  pub adds_this : (old new : Stage D disk) (acked parts front : List Portion) (next : Point)
      → disk.may_leave old.disk (disk.seen old.disk) → IsStage old acked parts → Passes disk
      old.disk new.disk (IsEither old.in_second old.generation old.acknowledged next acked front)
      → AddsOnly (IsThis next front) (crashes_of old) (crashes_of new)
  adds_this old new acked parts front next now is passes = adds_passed old _ (IsThis next front) _
      passes (λ bytes g back there was staged. returned old _ parts _ _ _ _ _ _ now is was staged)
      (λ before bytes was. either_stands _ _ _ _ _ _ _ was)

  -- a call that only reads
  pub adds_read : (old : Stage D disk) (new : D) → Passes disk old.disk new
      (disk.may_leave old.disk) → AddsNothing (crashes_of old) (crashes_on disk new)
  adds_read old new passes = adds_passed old _ (λ back there. ⊥) _ passes
      (λ bytes g back there left staged. inl (bytes, left, (g, staged)))
      (λ before bytes left. before bytes left)

  -- a call that was refused
  pub adds_refused : (old new : Stage D disk) (these : crash.Returns) (fault : StageFault)
      → HasRefused old new fault
      → (old.failed ≡ false → AddsOnly these (crashes_of old) (crashes_of new))
      → AddsOnly these (crashes_of old) (crashes_of new)
  adds_refused old new these Device is failed = failed is.0
  adds_refused old new these Full is failed = rw is (only_same these (crashes_of old))
  adds_refused old new these Failed is failed = rw is.0 (only_same these (crashes_of old))
  adds_refused old new these NoPoint is failed = absurd is
  adds_refused old new these (BadFrame place) is failed = absurd is
  adds_refused old new these OutOfMemory is failed = absurd is
