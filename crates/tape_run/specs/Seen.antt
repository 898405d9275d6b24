-- A session whose sink contains these parts.
use Rattle.std.specs.Prelude.{◌≡◌, ℕ, Bool, List, [], ◌∷◌}
use Rattle.tape_blocks.specs.Block.{Portion}
use Rattle.tape_set.specs.Layout.{FileSet}
use Rattle.tape_core.specs.{Point.Point, State.State, Place.IsPlaced, Place.rest_of, Weight.IsFront}
use Rattle.tape_core.specs.{Stands.Stands, Stands.weight_of, declared.sink.PartSink.Ghosts}
use Rattle.tape_run.specs.SessionState.{SessionState}

-- a session between two calls: its core, the parts that its sink contains, its checkpoints, how
-- many readers failed, how many calls the sink refused, and whether it reads reels in the wider
-- reading
pub record Seen : Type 0 where
  pub place : State
  pub parts : List Portion
  pub notes : List Point
  pub failures : ℕ
  pub refusals : ℕ
  pub wide : Bool

-- The checkpoints are valid for prefixes of the parts, each at least as long as the one before, and
-- the first at least as long as the given prefix.
abbrev pub AreNotes : FileSet → ℕ → List Portion → List Point → List Portion → Type 0
AreNotes set file front [] parts = IsFront front parts
AreNotes set file front (c ∷ cs) parts = (ps : List Portion) × IsFront front ps
    × Stands set file c ps × AreNotes set file ps cs parts

-- The session reads a file of the set: its position is the one after its parts, and each checkpoint
-- is valid for a prefix of them.
pub record IsSession (set : FileSet) (s : Seen) : Type 0 where
  pub at : IsPlaced set s.place s.parts
  pub notes : AreNotes set s.place.file [] s.notes s.parts

-- The checkpoint belongs to the file of this position, and has the weight of these parts.
pub record IsNote (place : State) (c : Point) (ps : List Portion) : Type 0 where
  pub of_set : c.set_id ≡ place.set_id
  pub of_file : c.file ≡ place.file
  pub staged : c.staged ≡ weight_of ps

-- The checkpoints have the weights of prefixes of the parts, each at least as long as the one
-- before, and the first at least as long as the given prefix.
abbrev pub KeepsNotes : State → List Portion → List Point → List Portion → Type 0
KeepsNotes place front [] parts = IsFront front parts
KeepsNotes place front (c ∷ cs) parts = (ps : List Portion) × IsFront front ps × IsNote place c ps
    × KeepsNotes place ps cs parts

-- The invariant of sessions, whatever set they read.
abbrev pub IsKept : Seen → Type 0
IsKept s = KeepsNotes s.place [] s.notes s.parts

-- a session whose sink contains these parts
abbrev pub seen : {S : Type 0} → Ghosts S → SessionState S → List Portion → Seen
seen g s parts = record {
  place = rest_of s.core;
  parts = parts;
  notes = s.notes;
  failures = s.failures;
  refusals = g.refusals s.sink;
  wide = s.wide;
}

-- For any parts that its sink contains, this is true of the session with these parts.
abbrev pub IfSeen : {S : Type 0} → Ghosts S → SessionState S → (Seen → Type 0) → Type 0
IfSeen g s so = (held : List Portion) → g.holds s.sink held → so (seen g s held)

-- The sink contains parts, and this is true of the session with them.
abbrev pub IsSeen : {S : Type 0} → Ghosts S → SessionState S → (Seen → Type 0) → Type 0
IsSeen g s so = (now : List Portion) × g.holds s.sink now × so (seen g s now)

-- This is true of the session with the parts that its sink contains, unless the step lost the
-- parts.
abbrev pub IsSeenUnless : {S : Type 0} → Type 0 → Ghosts S → SessionState S → (Seen → Type 0)
    → Type 0
IsSeenUnless lost g s so = (now : List Portion) × ((lost → ⊥) → g.holds s.sink now)
    × so (seen g s now)
