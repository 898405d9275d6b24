-- Sessions across crashes.
use Rattle.std.specs.Prelude.{Bool, ◌≡◌, ◌⊎◌, ℕ, List, [], ◌∷◌, ◌++◌, length, map, Some, slice_get}
use Rattle.std.specs.Prelude.{Option}
use Rattle.tape_blocks.specs.Block.{Portion}
use Rattle.tape_set.specs.{Layout.FileSet, Lawful.IsLawful, Before.before}
use Rattle.tape_set.specs.declared.position.Position.{Position}
use Rattle.tape_core.specs.{Crash.Returns, Crash.OnlyThis, Point.Point, Place.place_of}
use Rattle.tape_core.specs.Stands.{Stands}
use Rattle.tape_run.specs.{Mount.MountEvent, Given.AreGivenBy, Headline.HasRun, Crash.StoodAt}
use Rattle.tape_run.specs.{declared.script.Step.Step, Seen.Seen, Seen.IsSession}
use Rattle.tape_run.specs.History.{Course, course, course_of, IsHistory}

-- the position of the history, or one of its checkpoints
abbrev pub IsPlaceOf : Course → Position → Type 0
IsPlaceOf c p = (p ≡ c.at) ⊎ ((n : ℕ) × (slice_get c.notes n ≡ Some p))

-- This was left of the session after these of its steps: for every valid set, and every history
-- that these steps and the returned bytes represent, it is valid, at the position that the history
-- leads to or at one of the checkpoints made since.
pub record ComesBack (old : Seen) (steps done : List Step) (bytes : List (List ℕ))
    (left : List (Option (List ℕ))) (given : List (List ℕ))
    (back : Point) (there : List Portion) : Type 0 where
  pub rest : List Step
  pub all : steps ≡ done ++ rest
  pub which : List Bool
  pub are_given : AreGivenBy which bytes left given
  pub stands : (set : FileSet) (hs : List MountEvent) → IsLawful set
      → IsHistory set (length old.notes) done given hs → IsSession set old
      → Stands set old.place.file back there
      × IsPlaceOf (course set old.place.file (course_of old) hs) back.position

-- Whatever may be left of a session over readers that know their bytes is valid in this sense.
abbrev pub StoodComesBack : Type 0
StoodComesBack = (old : Seen) (steps : List Step) (bytes : List (List ℕ))
    (left : List (Option (List ℕ))) (back : Point) (there : List Portion)
    → StoodAt old steps (map Some bytes) left back there → (done : List Step)
    × (given : List (List ℕ)) × ComesBack old steps done bytes left given back there

-- one run of a session, up to a crash: its start, its steps and readers, the bytes that these have
-- left, and the steps after which the remaining state is valid, given the returned bytes
pub record CrashRun : Type 0 where
  pub began : Seen
  pub steps : List Step
  pub bytes : List (List ℕ)
  pub left : List (Option (List ℕ))
  pub done : List Step
  pub given : List (List ℕ)

-- the session was resumed at the checkpoint, over a sink that contains these parts
pub record IsResumed (c : Point) (ps : List Portion) (s : Seen) : Type 0 where
  pub place : s.place ≡ place_of c
  pub parts : s.parts ≡ ps
  pub notes : s.notes ≡ []
  pub failures : s.failures ≡ 0

-- Each run was resumed at the state that the crash before it left: either the state that existed
-- when the run began, or one that the crash left of that run.
abbrev pub Outlives : Point → List Portion → List CrashRun → Point → List Portion → Type 0
Outlives c ps [] back there = (back ≡ c) × (there ≡ ps)
Outlives c ps (life ∷ lives) back there =
    IsResumed c ps life.began
    × ((mid : Point) × (front : List Portion) × (((mid ≡ c) × (front ≡ ps))
    ⊎ ComesBack life.began life.steps life.done life.bytes life.left life.given mid front)
    × Outlives mid front lives back there)

-- If only this checkpoint with these parts was left before, then either that is left now, or a
-- state that a crash leaves of a run of these steps.
abbrev pub LivesOn : Point → List Portion → List Step → List (List ℕ) → List (Option (List ℕ))
    → Returns → Returns → Type 0
LivesOn c ps steps bytes left old new = OnlyThis c ps old → (back : Point) (there : List Portion)
    → new back there
    → (life : CrashRun) × (life.steps ≡ steps) × (life.bytes ≡ bytes) × (life.left ≡ left)
    × Outlives c ps (life ∷ []) back there

-- a history for each run
abbrev pub AreHistories : FileSet → List CrashRun → List (List MountEvent) → Type 0
AreHistories set [] hss = hss ≡ []
AreHistories set (life ∷ lives) [] = ⊥
AreHistories set (life ∷ lives) (hs ∷ hss) = IsHistory set 0 life.done life.given hs
    × AreHistories set lives hss

-- Across any number of crashes the state that is left is valid.
abbrev pub StandsAcrossCrashes : Type 0
StandsAcrossCrashes = (set : FileSet) (c : Point) (ps : List Portion) (lives : List CrashRun)
    (hss : List (List MountEvent)) (back : Point) (there : List Portion) → IsLawful set
    → Stands set c.file c ps → Outlives c ps lives back there → AreHistories set lives hss
    → Stands set c.file back there

-- What a resumed session has after its steps: for every valid set in which the checkpoint is valid,
-- and every history that the returned bytes represent, its position is the one to which this
-- history leads from the checkpoint, and its parts are those before that position.
abbrev pub ResumedGoesOn : Type 0
ResumedGoesOn = (set : FileSet) (c : Point) (ps : List Portion) (began new : Seen)
    (steps : List Step) (bytes : List (List ℕ)) (left : List (Option (List ℕ)))
    (hs : List MountEvent) → IsLawful set → Stands set c.file c ps → IsResumed c ps began
    → (run : HasRun began steps bytes left new) → IsHistory set 0 steps run.given hs
    → (course set c.file (record { at = c.position; notes = [] }) hs ≡ course_of new)
    × (new.parts ≡ before set c.file new.place.position)
