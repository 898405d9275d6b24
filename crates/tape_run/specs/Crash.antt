-- The states that a crash leaves of a session.
use Rattle.std.specs.Prelude.{◌≡◌, ◌⊎◌, ℕ, ◌+◌, ◌≤◌, List, [], ◌∷◌, length, Option, Some, None}
use Rattle.std.specs.Prelude.{slice_get, ⊤, Bool, true, false}
use Rattle.tape_blocks.specs.Block.{Portion}
use Rattle.tape_core.specs.Crash.{Returns, Crashes, AddsNothing, AddsOnly}
use Rattle.tape_core.specs.{Place.rest_of, Point.Point, Stands.weight_of, Table.saved}
use Rattle.tape_core.specs.{Weight.IsFront, declared.sink.PartSink.Ghosts}
use Rattle.tape_run.specs.{declared.script.Step.Step, Seen.Seen, Seen.seen}
use Rattle.tape_run.specs.declared.script.Step.TheVariants.{Reel, Save, Restart}
use Rattle.tape_run.specs.{SessionState.SessionState, Steps.Reeled, Steps.Saved, Steps.WentBack}

-- the session's position and the parts before it
abbrev pub IsHere : Seen → Point → List Portion → Type 0
IsHere s back there = (back ≡ saved s.place (weight_of s.parts)) × (there ≡ s.parts)

-- the checkpoint of the session with this number, with the first parts up to its weight
abbrev pub IsNoteOf : ℕ → Seen → Point → List Portion → Type 0
IsNoteOf n s back there = (slice_get s.notes n ≡ Some back) × IsFront there s.parts
    × (weight_of there ≡ back.staged)

-- the last checkpoint of the session, with its parts
abbrev pub IsLast : Seen → Point → List Portion → Type 0
IsLast s back there = (n : ℕ) × (length s.notes ≡ n + 1) × IsNoteOf n s back there

-- Only the last checkpoint, with its parts, is left.
abbrev pub BringsLast : Returns → Seen → Type 0
BringsLast returns s = (back : Point) (there : List Portion) → returns back there
    → IsLast s back there

-- Only the last checkpoint, with its parts, is left after a crash now, or at any moment from a past
-- one on.
abbrev pub LastAlone : Crashes → Seen → Type 0
LastAlone now s = BringsLast now.returns s
    × ((t : ℕ) × (t ≤ now.moment) × BringsLast (now.returned t) s)

-- What a crash leaves of a session, between two of its states. Only the last checkpoint is left if
-- the session has made one since, or if nothing else was left before. If it made none, only the
-- last checkpoint may be left besides what was left before, and it is the same one; and if from
-- moment t to the start only the old checkpoint was left, then that is true from t until now. If
-- something survived every crash before, something still does, now and at each moment since t.
pub record KeepsLast {S : Type 0} (g : Ghosts S) (old : SessionState S) (held : List Portion)
    (new : SessionState S) (now : List Portion) : Type 0 where
  pub last : (length new.notes ≡ length old.notes
      → BringsLast (g.crashes old.sink).returns (seen g old held))
      → BringsLast (g.crashes new.sink).returns (seen g new now)
  pub adds : length new.notes ≡ length old.notes → (back : Point) (there : List Portion)
      → (g.crashes new.sink).returns back there
      → (g.crashes old.sink).returns back there ⊎ IsLast (seen g new now) back there
  pub same : length new.notes ≡ length old.notes → (back : Point) (there : List Portion)
      → IsLast (seen g old held) back there → IsLast (seen g new now) back there
  pub survives : (g.crashes old.sink).survives → (g.crashes new.sink).survives
  pub no_fewer : length old.notes ≤ length new.notes
  pub later : (g.crashes old.sink).moment ≤ (g.crashes new.sink).moment
  pub since : (t : ℕ) → t ≤ (g.crashes old.sink).moment → length new.notes ≡ length old.notes
      → BringsLast ((g.crashes old.sink).returned t) (seen g old held)
      → BringsLast ((g.crashes new.sink).returned t) (seen g new now)
  pub survived : (t : ℕ) → t ≤ (g.crashes old.sink).moment
      → (g.crashes old.sink).survived t → (g.crashes new.sink).survived t

-- the session's position, with everything in its sink: these parts, and perhaps more
abbrev pub IsHeld : {S : Type 0} → Ghosts S → List Portion → SessionState S → Returns
IsHeld g parts s back there = g.holds s.sink there × IsFront parts there
    × (back ≡ saved (rest_of s.core) (weight_of there))

-- A step failed: a crash leaves only what it could leave before, after a rollback also the last
-- checkpoint, and after a refused save the session's position.
abbrev pub LeavesStep : {S : Type 0} → Ghosts S → Bool → Type 0 → SessionState S → List Portion
    → SessionState S → Type 0
LeavesStep g goes unsaved old held new =
    AddsOnly (λ back there. ((goes ≡ true) × IsLast (seen g old held) back there)
    ⊎ (unsaved × IsHeld g held new back there)) (g.crashes old.sink) (g.crashes new.sink)

-- A fault came after the session had the state `now`. A crash leaves only the last checkpoint of
-- that state, or the session's position if the fault is a refused save: this is so if the session
-- made a checkpoint meanwhile or nothing but its last one was left before. If it made none, only
-- these may be left besides what was left before; and if from moment t to the start only the old
-- checkpoint was left, then the first is true from t until now.
-- If something survived every crash before, something still does, now and at each moment since t.
pub record LeavesSaved {S : Type 0} (g : Ghosts S) (unsaved : Type 0) (old : SessionState S)
    (held : List Portion) (now : Seen) (new : SessionState S) : Type 0 where
  pub comes : (length now.notes ≡ length old.notes
      → BringsLast (g.crashes old.sink).returns (seen g old held))
      → (back : Point) (there : List Portion) → (g.crashes new.sink).returns back there
      → IsLast now back there ⊎ (unsaved × IsHeld g now.parts new back there)
  pub adds : length now.notes ≡ length old.notes → (back : Point) (there : List Portion)
      → (g.crashes new.sink).returns back there → (g.crashes old.sink).returns back there
      ⊎ (IsLast now back there ⊎ (unsaved × IsHeld g now.parts new back there))
  pub same : length now.notes ≡ length old.notes → (back : Point) (there : List Portion)
      → IsLast (seen g old held) back there → IsLast now back there
  pub survives : (g.crashes old.sink).survives → (g.crashes new.sink).survives
  pub no_fewer : length old.notes ≤ length now.notes
  pub since : (t : ℕ) → t ≤ (g.crashes old.sink).moment → length now.notes ≡ length old.notes
      → BringsLast ((g.crashes old.sink).returned t) (seen g old held)
      → (back : Point) (there : List Portion) → (g.crashes new.sink).returned t back there
      → IsLast now back there ⊎ (unsaved × IsHeld g now.parts new back there)
  pub survived : (t : ℕ) → t ≤ (g.crashes old.sink).moment
      → (g.crashes old.sink).survived t → (g.crashes new.sink).survived t

-- If a sink contained parts, a crash leaves nothing that it could not leave before.
abbrev pub BringsNoMore : {S : Type 0} → Ghosts S → S → S → Type 0
BringsNoMore g old new = (parts : List Portion) → g.holds old parts
    → AddsNothing (g.crashes old) (g.crashes new)

-- The session is unchanged, except perhaps for its sink. The sink has the same contents, and a
-- crash leaves nothing that it could not leave before.
pub record IsWalked {S : Type 0} (g : Ghosts S) (old new : SessionState S) : Type 0 where
  pub core : new.core ≡ old.core
  pub notes : new.notes ≡ old.notes
  pub failures : new.failures ≡ old.failures
  pub wide : new.wide ≡ old.wide
  pub kept : (parts : List Portion) → g.holds old.sink parts → g.holds new.sink parts
  pub crash : BringsNoMore g old.sink new.sink

-- whether only reels were read after the last save, given whether that was so before
abbrev pub is_saved : Bool → List Step → Bool
is_saved saved [] = saved
is_saved saved (Reel ∷ steps) = is_saved saved steps
is_saved saved (Save ∷ steps) = is_saved true steps
is_saved saved (Restart n ∷ steps) = is_saved false steps

-- the session's position, or one of its checkpoints
abbrev pub IsOf : Seen → Point → List Portion → Type 0
IsOf s back there = IsHere s back there ⊎ ((n : ℕ) × IsNoteOf n s back there)

-- This is true of the session before the first of the steps, or after one that succeeded, with
-- these bytes left to the readers. After a reader that does not know its bytes nothing is known.
abbrev pub StoodAt : Seen → List Step → List (Option (List ℕ)) → List (Option (List ℕ)) → Point
    → List Portion → Type 0
StoodAt s [] reels left back there = IsOf s back there
StoodAt s (Reel ∷ steps) [] left back there = IsOf s back there
StoodAt s (Reel ∷ steps) (None ∷ reels) left back there = ⊤
StoodAt s (Reel ∷ steps) (Some bytes ∷ reels) [] back there = IsOf s back there
StoodAt s (Reel ∷ steps) (Some bytes ∷ reels) (l ∷ left) back there = IsOf s back there
    ⊎ ((failed : Bool) × (mid : Seen) × Reeled bytes l failed s mid
    × StoodAt mid steps reels left back there)
StoodAt s (Save ∷ steps) reels left back there = IsOf s back there ⊎ ((mid : Seen) × Saved s mid
    × StoodAt mid steps reels left back there)
StoodAt s (Restart n ∷ steps) reels left back there = IsOf s back there ⊎ ((mid : Seen)
    × WentBack n s mid × StoodAt mid steps reels left back there)
