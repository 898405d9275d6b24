-- Histories, and the position that they lead to.
use Rattle.std.specs.Prelude.{◌≡◌, ℕ, ◌+◌, ◌<◌, List, [], ◌∷◌, ◌++◌, map, take, Option, Some, None}
use Rattle.std.specs.Prelude.{slice_get, ⊤}
use Rattle.tape_set.specs.{Layout.FileSet, Reach.far, declared.position.Position.Position}
use Rattle.tape_run.specs.Mount.{MountEvent, reads, foreign_reel, saves, restarts, IsMountOf}
use Rattle.tape_run.specs.{declared.script.Step.Step, Seen.Seen}
use Rattle.tape_run.specs.declared.script.Step.TheVariants.{Reel, Save, Restart}

-- a position, and the checkpoints, the oldest first
pub record Course : Type 0 where
  pub at : Position
  pub notes : List Position

-- after a rollback to checkpoint n, if it exists: the later checkpoints are dropped
abbrev pub at_note : Course → ℕ → Option Position → Course
at_note c n None = c
at_note c n (Some p) = record { at = p; notes = take (n + 1) c.notes }

-- the position history after one event
abbrev pub after : FileSet → ℕ → Course → MountEvent → Course
after set file c (reads r) = record { at = far set file c.at r; notes = c.notes }
after set file c foreign_reel = c
after set file c saves = record { at = c.at; notes = c.notes ++ c.at ∷ [] }
after set file c (restarts n) = at_note c n (slice_get c.notes n)

-- the position history after a whole history of events
abbrev pub course : FileSet → ℕ → Course → List MountEvent → Course
course set file c [] = c
course set file c (h ∷ hs) = course set file (after set file c h) hs

-- The events that the steps and the bytes of the reels represent, after the given number of
-- checkpoints. There may be more reels than the steps use.
abbrev pub IsHistory : FileSet → ℕ → List Step → List (List ℕ) → List MountEvent → Type 0
IsHistory set notes [] reels [] = ⊤
IsHistory set notes [] reels (h ∷ hs) = ⊥
IsHistory set notes (s ∷ steps) reels [] = ⊥
IsHistory set notes (Reel ∷ steps) [] (h ∷ hs) = ⊥
IsHistory set notes (Reel ∷ steps) (bytes ∷ reels) (h ∷ hs) = IsMountOf set bytes h
    × IsHistory set notes steps reels hs
IsHistory set notes (Save ∷ steps) reels (h ∷ hs) = (h ≡ saves)
    × IsHistory set (notes + 1) steps reels hs
IsHistory set notes (Restart n ∷ steps) reels (h ∷ hs) = (h ≡ restarts n) × (n < notes)
    × IsHistory set (n + 1) steps reels hs

-- the position history of a session
abbrev pub course_of : Seen → Course
course_of s = record { at = s.place.position; notes = map (λ c. c.position) s.notes }
