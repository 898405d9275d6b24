-- The headline: the state that a run of a session leaves, over the mounts that happened.
--
-- Premises, each a parameter or a field below: the set is valid (`IsLawful`); each reader knew its
-- bytes, and these are a copy of one of the set's volumes, complete, cut or damaged, or a foreign
-- reel (`IsHistory`); the checkpoints that the script returns to exist (`IsHistory`); the sink
-- contains the parts of the session before (`IsSession`, `IsNew`); no call was refused (`HasRun`,
-- `IsRead`), or the first one that was ended the run (`HasStopped`).
use Rattle.std.specs.Prelude.{◌≡◌, ℕ, suc, ◌≤◌, List, [], ◌∷◌, length, take, drop, IsSome, Bool}
use Rattle.std.specs.Prelude.{Option, Some, slice_get}
use Rattle.tape_image.specs.{Tape.TapeItem, Begins.Stop, Begins.Begins}
use Rattle.tape_core.specs.{declared.sink.SinkFault.TheVariants.Device, Table.reader_of}
use Rattle.tape_set.specs.{Position.start, Lawful.IsLawful, Before.before}
use Rattle.tape_set.specs.Layout.{FileSet, file_of}
use Rattle.tape_run.specs.declared.fault.RunFault.TheVariants.{Sink, NoSuchPoint, TooFewReels}
use Rattle.tape_run.specs.{declared.script.Step.Step, declared.fault.RunFault.RunFault}
use Rattle.tape_run.specs.declared.script.Step.TheVariants.{Reel, Save, Restart}
use Rattle.tape_run.specs.{declared.fault.RunFault.TheVariants.OutOfMemory, Steps.StoppedBy}
use Rattle.tape_run.specs.{Mount.MountEvent, Mount.IsMount, Seen.Seen, Seen.IsSession}
use Rattle.tape_run.specs.Given.{AreGivenBy, failed_of, counted_up}
use Rattle.tape_run.specs.History.{Course, course, course_of, IsHistory}
use Rattle.tape_run.specs.Lead.{Lead, lead, at_start, AreItems, StandsThere, LeadsBy, StopsBy}

-- ---- all steps succeeded

-- The session is where the history leads, with exactly the parts before that position.
pub record Ran (set : FileSet) (old : Seen) (hs : List MountEvent) (new : Seen) : Type 0 where
  pub session : IsSession set new
  pub same_file : new.place.file ≡ old.place.file
  pub reached : course set old.place.file (course_of old) hs ≡ course_of new

-- All steps succeeded: for every valid set and every history that the returned bytes represent, the
-- session is where this history leads; and for any bytes, it is where the table leads. The bytes
-- that each reader returned follow from those that it has left.
pub record HasRun (old : Seen) (steps : List Step) (bytes : List (List ℕ))
    (left : List (Option (List ℕ))) (new : Seen) : Type 0 where
  pub given : List (List ℕ)
  pub which : List Bool
  pub are_given : AreGivenBy which bytes left given
  pub count : new.failures ≡ counted_up (failed_of which) old.failures
  pub ran : (set : FileSet) (hs : List MountEvent) → IsLawful set
      → IsHistory set (length old.notes) steps given hs → IsSession set old → Ran set old hs new
  pub led : LeadsBy old steps given new
  pub same_wide : new.wide ≡ old.wide

-- ---- a session that begins a file

-- the position history of a file before anything was read
abbrev pub begins : Course
begins = record { at = start; notes = [] }

-- A session of the set at the start of the file.
pub record IsNew (set : FileSet) (file : ℕ) (s : Seen) : Type 0 where
  pub session : IsSession set s
  pub its_file : s.place.file ≡ file
  pub course : course_of s ≡ begins

-- The session has read nothing of this file: in every valid set with the identifier that has the
-- file, its position is the file's start.
pub record IsStart (set_id : List ℕ) (file : ℕ) (s : Seen) : Type 0 where
  pub no_notes : s.notes ≡ []
  pub no_failures : s.failures ≡ 0
  pub no_parts : s.parts ≡ []
  pub place : s.place ≡ reader_of set_id file
  pub each : (set : FileSet) → IsLawful set → set_id ≡ set.set_id → IsSome (file_of set file)
      → IsNew set file s

-- After a file was read from its start: for every valid set with this identifier that has the file,
-- and every history that the returned bytes represent, the sink contains the parts before the
-- position that the history leads to, and the position and the checkpoints are those of the
-- history. For any bytes, all of this is as the table leads.
pub record IsRead (set_id : List ℕ) (file : ℕ) (steps : List Step) (bytes : List (List ℕ))
    (left : List (Option (List ℕ))) (s : Seen) : Type 0 where
  pub given : List (List ℕ)
  pub which : List Bool
  pub are_given : AreGivenBy which bytes left given
  pub count : s.failures ≡ counted_up (failed_of which) 0
  pub reads : (set : FileSet) (hs : List MountEvent) → IsLawful set → set_id ≡ set.set_id
      → IsSome (file_of set file) → IsHistory set 0 steps given hs
      → (course_of s ≡ course set file begins hs)
      × (s.parts ≡ before set file (course set file begins hs).at)
  pub led : (reels : List (List TapeItem)) → AreItems given reels
      → StandsThere (lead (at_start s.wide set_id file) steps reels) s

-- ---- a fault ended the run

-- the number of readers that the steps take
abbrev pub reels_in : List Step → ℕ
reels_in [] = 0
reels_in (Reel ∷ steps) = suc (reels_in steps)
reels_in (Save ∷ steps) = reels_in steps
reels_in (Restart n ∷ steps) = reels_in steps

-- The failed step is a rollback in which the sink's device failed: the contents of the sink are
-- unknown.
abbrev pub LosesParts : List Step → ℕ → RunFault → Type 0
LosesParts steps n fault =
    ((note : ℕ) × (slice_get steps n ≡ Some (Restart note))) × (fault ≡ Sink Device)

-- After this history a part was refused, in the block of the reel that was expected there: the
-- session is where the items before it lead, in the block at the refused part, with exactly the
-- parts before that position.
pub record PutRefused (set : FileSet) (old : Seen) (hs : List MountEvent) (xs : List TapeItem)
    (h : MountEvent) (new : Seen) : Type 0 where
  pub session : IsSession set new
  pub same_file : new.place.file ≡ old.place.file
  pub notes : (course_of new).notes ≡ (course set old.place.file (course_of old) hs).notes
  pub by : StoppedBy set old.place.file (course set old.place.file (course_of old) hs).at xs h
      new.place new.parts

-- The step failed, for this reason, in a session with this history, with these readers left: the
-- session's position is unchanged, or is a part that the sink refused.
abbrev pub StopsStep : FileSet → Seen → List MountEvent → Step → List (List ℕ) → RunFault → Seen
    → Type 0
StopsStep set old hs Reel [] TooFewReels new = Ran set old hs new
StopsStep set old hs Reel (bytes ∷ readers) OutOfMemory new = Ran set old hs new
StopsStep set old hs Reel (bytes ∷ readers) (Sink cause) new = (xs : List TapeItem) (end : ℕ)
    (stop : Stop) (h : MountEvent)
    → Begins 0 bytes xs end stop → IsMount set xs h → PutRefused set old hs xs h new
StopsStep set old hs Save readers OutOfMemory new = Ran set old hs new
StopsStep set old hs Save readers (Sink cause) new = Ran set old hs new
StopsStep set old hs (Restart n) readers NoSuchPoint new =
    (length (course set old.place.file (course_of old) hs).notes ≤ n) × Ran set old hs new
StopsStep set old hs (Restart n) readers (Sink cause) new = Ran set old hs new
StopsStep set old hs step readers fault new = ⊥

-- The first n steps succeeded, and the next one failed: for every valid set and every history that
-- the successful steps and the returned bytes represent, the session is where this history leads,
-- or at a part that the sink refused.
pub record HasStopped (old : Seen) (steps : List Step) (bytes : List (List ℕ))
    (left : List (Option (List ℕ))) (n : ℕ) (fault : RunFault) (new : Seen) : Type 0 where
  pub step : Step
  pub at : slice_get steps n ≡ Some step
  pub given : List (List ℕ)
  pub which : List Bool
  pub are_given : AreGivenBy which bytes left given
  pub count : new.failures ≡ counted_up (failed_of which) old.failures
  pub stops : (set : FileSet) (hs : List MountEvent) → IsLawful set
      → IsHistory set (length old.notes) (take n steps) given hs → IsSession set old
      → StopsStep set old hs step (drop (reels_in (take n steps)) bytes) fault new
  pub led : (t : Lead) (reels : List (List TapeItem)) → AreItems given reels → StandsThere t old
      → StopsBy (lead t (take n steps) reels) step (drop (reels_in (take n steps)) bytes) fault new
