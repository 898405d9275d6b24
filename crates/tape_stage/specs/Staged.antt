-- The meaning of the bytes of a stage file.
use Rattle.std.proofs.Common.{◌≡◌, ◌⊎◌, ℕ, ◌+◌, ◌≤◌, ◌<◌, Bool, true, false, not, List, ◌∷◌}
use Rattle.std.proofs.Common.{length, take, drop, get_or, ◌++◌, replicate, Option, Some, None}
use Rattle.std.proofs.Common.{if◌then◌else◌, ◌==◌, nat_lt, w32}
use Rattle.std.specs.Int.{to_be_bytes}
use Rattle.tape_blocks.specs.{declared.parts.Span.Span, Block.Portion, Block.indicator}
use Rattle.tape_stage.specs.Parts.{frames, longest_part, AllShort}
use Rattle.tape_stage.specs.{Disk.CutShort, Body.body_text, Body.body_of, Body.Slot}
use Rattle.tape_core.specs.Point.{Point}

-- the offset of the first or the second slot
abbrev pub slot_place : Bool → ℕ
slot_place false = 0
slot_place true = 128

abbrev pub gate_at : Bool → List ℕ → ℕ
gate_at second bytes = get_or bytes (slot_place second) 0

abbrev pub body_at : Bool → List ℕ → List ℕ
body_at second bytes = take 127 (drop (slot_place second + 1) bytes)

-- the contents of a slot, which is valid if its gate is open and its body can be read
abbrev pub read_slot : ℕ → List ℕ → Option Slot
read_slot gate body = if gate == 79 then body_of body else None

abbrev pub slot_at : Bool → List ℕ → Option Slot
slot_at second bytes = read_slot (gate_at second bytes) (body_at second bytes)

-- the slot with the greater generation, or the first if both are equal
abbrev pub best : Option Slot → Option Slot → Option Slot
best None b = b
best (Some a) None = Some a
best (Some a) (Some b) = if nat_lt a.0 b.0 then Some b else Some a

-- the frames of total weight `weight` are those of the given parts
pub record Holding (weight : ℕ) (parts : List Portion) (bytes : List ℕ) : Type 0 where
  pub long : 256 + weight ≤ length bytes
  pub frames_are : take weight (drop 256 bytes) ≡ frames parts
  pub short : AllShort parts

-- The bytes represent a generation, its checkpoint and its parts.
pub record Staged (bytes : List ℕ) (g : ℕ) (point : Point) (parts : List Portion) : Type 0 where
  pub slot : best (slot_at false bytes) (slot_at true bytes) ≡ Some (g, point)
  pub parts_are : Holding point.staged parts bytes

-- the other slot does not replace generation g
abbrev pub Loses : Bool → ℕ → Option Slot → Type 0
Loses second g None = Unit {0}
Loses false g (Some other) = other.0 ≤ g
Loses true g (Some other) = other.0 < g

-- the same, for a named slot
pub record StagedIn (second : Bool) (g : ℕ) (point : Point) (parts : List Portion)
    (bytes : List ℕ) : Type 0 where
  pub is_open : gate_at second bytes ≡ 79
  pub body : body_of (body_at second bytes) ≡ Some (g, point)
  pub other : Loses second g (slot_at (not second) bytes)
  pub parts_are : Holding point.staged parts bytes

-- the same, and the other slot's gate is closed
pub record IsClosed (second : Bool) (g : ℕ) (point : Point) (parts : List Portion)
    (bytes : List ℕ) : Type 0 where
  pub staged : StagedIn second g point parts bytes
  pub closed : gate_at (not second) bytes ≡ 79 → ⊥

-- Between two calls: the acknowledged data are on the disk, in all contents that a crash may leave.
pub record Ready (second : Bool) (g : ℕ) (point : Point) (parts : List Portion) (other_open : Bool)
    (seen : List ℕ) (may_leave : List ℕ → Type 0) : Type 0 where
  pub staged : StagedIn second g point parts seen
  pub gate : other_open ≡ (gate_at (not second) seen == 79)
  pub alike : (c : List ℕ) → may_leave c → take (256 + point.staged) c ≡ take
      (256 + point.staged) seen

-- a named slot is current and has the given generation and checkpoint, whatever the frames are
pub record NamedIn (second : Bool) (g : ℕ) (point : Point) (bytes : List ℕ) : Type 0 where
  pub is_open : gate_at second bytes ≡ 79
  pub body : body_of (body_at second bytes) ≡ Some (g, point)
  pub other : Loses second g (slot_at (not second) bytes)

-- the other slot is current now, and the older slot's gate is open
pub record IsNext (second : Bool) (g : ℕ) (next : Point) (bytes : List ℕ) : Type 0 where
  pub named : NamedIn (not second) g next bytes
  pub gate : gate_at second bytes ≡ 79

-- the bytes have one generation or the next
abbrev pub IsEither : Bool → ℕ → Point → Point → List Portion → List Portion → List ℕ → Type 0
IsEither second g point next parts more bytes = StagedIn second g point parts bytes
    ⊎ StagedIn (not second) (g + 1) next more bytes

-- the first bytes are those of contents that were possible before
abbrev pub FrontOf : ℕ → (List ℕ → Type 0) → List ℕ → Type 0
FrontOf place may_leave c = (d : List ℕ) × may_leave d × (take place c ≡ take place d)

-- the bytes c represent whatever the bytes `read` represent
abbrev pub StandsLike : List ℕ → List ℕ → Type 0
StandsLike read c = (g : ℕ) (point : Point) (parts : List Portion) → Staged read g point parts
    → Staged c g point parts

-- the staged data are unchanged, and at most the bytes after them were removed
abbrev pub KeepsStaged : List ℕ → List ℕ → Type 0
KeepsStaged old new = (g : ℕ) (point : Point) (parts : List Portion) → Staged old g point parts
    → CutShort (256 + point.staged) old new

-- the bytes after the gate of a slot that was never written
abbrev pub blank : List ℕ
blank = replicate 15 48 ++ replicate 112 32

-- the slots of a new stage before its first gate is opened
abbrev pub new_slots : Point → List ℕ
new_slots point = 67 ∷ (body_text 1 point ++ 67 ∷ blank)

-- the five bytes are not the header of a part of at most 99,999 bytes
abbrev pub IsNoHeader : List ℕ → Type 0
IsNoHeader header = (span : Span) (size : ℕ) → size ≤ longest_part
    → header ≡ indicator span ∷ to_be_bytes w32 size → ⊥

-- the bytes do not represent a checkpoint with its parts
abbrev pub HoldsNone : List ℕ → Type 0
HoldsNone bytes = (g : ℕ) (point : Point) (parts : List Portion) → Staged bytes g point parts → ⊥

-- the frames are unchanged
pub record KeepsFrames (old new : List ℕ) : Type 0 where
  pub rest : drop 256 new ≡ drop 256 old
  pub long : length old ≤ length new

-- the bytes before the offset `place` are unchanged
pub record KeepsFront (place : ℕ) (old new : List ℕ) : Type 0 where
  pub front : take place new ≡ take place old
  pub long : length old ≤ length new

-- the bytes of the frames, up to the given weight, are unchanged
abbrev pub SameFrames : ℕ → List ℕ → List ℕ → Type 0
SameFrames weight old new = take weight (drop 256 new) ≡ take weight (drop 256 old)

-- The bytes have one generation with its parts, or name the next one, and P says which frames they
-- have.
abbrev pub IsSaving : Bool → ℕ → Point → Point → List Portion → (List ℕ → Type 0) → List ℕ
    → Type 0
IsSaving second g point next parts P bytes = StagedIn second g point parts bytes
    ⊎ (NamedIn (not second) (g + 1) next bytes × P bytes)
