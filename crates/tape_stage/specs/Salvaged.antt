-- The remains of a damaged stage.
use Rattle.std.specs.Prelude.{◌≡◌, ℕ, ◌+◌, ◌-◌, ◌≤◌, ◌<◌, min, length, true, false, List, Option}
use Rattle.std.specs.Prelude.{Some, None, IfSome}
use Rattle.tape_blocks.specs.{Block.Portion, Spans.join}
use Rattle.tape_core.specs.Point.{Point}
use Rattle.tape_stage.specs.{Parts.NoFrameAt, Staged.Holding, Staged.best, Staged.slot_at}

-- The frames after the first 256 bytes should have the weight `staged`, but they are damaged: no
-- frame begins at `place` and ends within that weight and the file.
pub record BreaksAt (staged place : ℕ) (bytes : List ℕ) : Type 0 where
  pub low : 256 ≤ place
  pub high : place < 256 + staged
  pub none : NoFrameAt place (min (256 + staged) (length bytes)) bytes

-- the weight of the intact frames: the full weight, or the weight of the frames before the damage
abbrev pub standing : ℕ → Option ℕ → ℕ
standing staged None = staged
standing staged (Some place) = place - 256

-- The frames are those of the given parts, up to the staged end or up to the damage.
pub record FramedTo (staged : ℕ) (broken : Option ℕ) (parts : List Portion)
    (bytes : List ℕ) : Type 0 where
  pub holds : Holding (standing staged broken) parts bytes
  pub breaks : IfSome broken (λ place. BreaksAt staged place bytes)

-- The remains of a stage: the checkpoint of the current slot, and the parts with intact frames,
-- either all parts that it counts or those before the damage.
pub record Remains (bytes : List ℕ) (g : ℕ) (point : Point) (broken : Option ℕ)
    (parts : List Portion) : Type 0 where
  pub slot : best (slot_at false bytes) (slot_at true bytes) ≡ Some (g, point)
  pub framed : FramedTo point.staged broken parts bytes

-- nothing remains: no slot is valid
abbrev pub RemainsNone : List ℕ → Type 0
RemainsNone bytes = (g : ℕ) (point : Point) (broken : Option ℕ) (parts : List Portion)
    → Remains bytes g point broken parts → ⊥

-- the bytes have at most one generation, checkpoint, offset of damage and list of parts that remain
abbrev pub RemainsOnce : List ℕ → Type 0
RemainsOnce bytes = (g h : ℕ) (point next : Point) (broken other : Option ℕ)
    (parts more : List Portion) → Remains bytes g point broken parts
    → Remains bytes h next other more → (g ≡ h) × (point ≡ next) × (broken ≡ other) × (parts ≡ more)

-- on any disk: a walk found all frames within a limit, or ended at an offset within the limit and
-- the staged weight
abbrev pub WalkedIn : ℕ → ℕ → Option ℕ → Type 0
WalkedIn staged limit None = 256 + staged ≤ limit
WalkedIn staged limit (Some place) = (256 ≤ place) × (place ≤ limit) × (place < 256 + staged)

-- A walk found the frames of some parts, up to the staged end or up to the damage, and counted the
-- records that end in them.
abbrev pub WalkedOver : ℕ → Option ℕ → ℕ → List ℕ → Type 0
WalkedOver staged broken records bytes = (parts : List Portion)
    × FramedTo staged broken parts bytes × (records ≡ length (join parts).records)
