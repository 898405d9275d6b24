-- Examples for the definitions of runs that stopped, as in Cases.
use Rattle.std.specs.Prelude.{◌≡◌, ◌≤◌, ℕ, ◌+◌, List, [], ◌∷◌, length, slice_get, Option, Some}
use Rattle.tape_image.specs.Tape.{TapeItem, block}
use Rattle.tape_set.specs.Position.{at_part, next_block}
use Rattle.tape_set.specs.{Layout.FileSet, Lawful.IsLawful, Before.before}
use Rattle.tape_core.specs.declared.sink.SinkFault.{SinkFault}
use Rattle.tape_core.specs.declared.sink.SinkFault.TheVariants as sinks
use Rattle.tape_run.specs.declared.fault.RunFault.{RunFault}
use Rattle.tape_run.specs.declared.fault.RunFault.TheVariants.{Sink, NoSuchPoint, TooFewReels}
use Rattle.tape_run.specs.declared.fault.RunFault.TheVariants.{OutOfMemory, OtherFile}
use Rattle.tape_run.specs.declared.script.Step.TheVariants.{Reel, Save, Restart}
use Rattle.tape_run.specs.{Given.AreGivenBy, Given.counted_up, Given.failed_of, History.IsHistory}
use Rattle.tape_run.specs.{History.course, History.course_of, Mount.MountEvent, Mount.after_mount}
use Rattle.tape_run.specs.{Mount.cut, Seen.Seen, Seen.IsSession}
use Rattle.tape_run.specs.Headline.{Ran, PutRefused, StopsStep, HasStopped, LosesParts, reels_in}

-- runs that a fault ended
pub record CasesOfStops : Type 0 where
  -- a step fails only for a reason that applies to it
  pub saves_stop : (set : FileSet) (old new : Seen) (hs : List MountEvent)
      (readers : List (List ℕ)) → (StopsStep set old hs Save readers NoSuchPoint new → ⊥)
      × (StopsStep set old hs Save readers TooFewReels new → ⊥)
      × (StopsStep set old hs Save readers OtherFile new → ⊥)
      × (StopsStep set old hs Save readers OutOfMemory new → Ran set old hs new)
  pub reels_stop : (set : FileSet) (old new : Seen) (hs : List MountEvent) (b : List ℕ)
      (readers : List (List ℕ)) → (StopsStep set old hs Reel (b ∷ readers) TooFewReels new → ⊥)
      × (StopsStep set old hs Reel (b ∷ readers) NoSuchPoint new → ⊥)
      × (StopsStep set old hs Reel (b ∷ readers) OtherFile new → ⊥)
      × (StopsStep set old hs Reel (b ∷ readers) OutOfMemory new → Ran set old hs new)
  pub no_reels_stop : (set : FileSet) (old new : Seen) (hs : List MountEvent) (cause : SinkFault)
      → (StopsStep set old hs Reel [] OutOfMemory new → ⊥)
      × (StopsStep set old hs Reel [] (Sink cause) new → ⊥)
      × (StopsStep set old hs Reel [] TooFewReels new → Ran set old hs new)
  pub restarts_stop : (set : FileSet) (old new : Seen) (hs : List MountEvent)
      (readers : List (List ℕ)) (n : ℕ) → (StopsStep set old hs (Restart n) readers NoSuchPoint new
      → (length (course set old.place.file (course_of old) hs).notes ≤ n) × Ran set old hs new)
      × (StopsStep set old hs (Restart n) readers OutOfMemory new → ⊥)
      × (StopsStep set old hs (Restart n) readers TooFewReels new → ⊥)
  pub sinks_stop : (set : FileSet) (old new : Seen) (hs : List MountEvent)
      (readers : List (List ℕ)) (cause : SinkFault)
      → (StopsStep set old hs Save readers (Sink cause) new → Ran set old hs new)
      × (StopsStep set old hs (Restart 0) readers (Sink cause) new → Ran set old hs new)
  -- a refused part: the sink contains exactly the parts before it, in a block that the items before
  -- it lead to
  pub part_refused : (set : FileSet) (old new : Seen) (hs : List MountEvent) (xs : List TapeItem)
      (h : MountEvent) (r : PutRefused set old hs xs h new)
      → (new.parts ≡ before set new.place.file new.place.position)
      × (new.place.file ≡ old.place.file) × (slice_get xs r.by.n ≡ Some (block r.by.content))
      × (after_mount set old.place.file (course set old.place.file (course_of old) hs).at
      (cut (r.by.n + 1) h) ≡ next_block (after_mount set old.place.file
      (course set old.place.file (course_of old) hs).at (cut r.by.n h)))
      × (new.place.position ≡ at_part r.by.part (after_mount set old.place.file
      (course set old.place.file (course_of old) hs).at (cut r.by.n h)))
      × ((course_of new).notes ≡ (course set old.place.file (course_of old) hs).notes)
  -- the step that failed is the one with the reported number
  pub stopped_at : (old new : Seen) (bytes : List (List ℕ)) (left : List (Option (List ℕ)))
      (fault : RunFault) (s : HasStopped old (Reel ∷ Save ∷ Restart 0 ∷ []) bytes left 1 fault new)
      → (s.step ≡ Save) × AreGivenBy s.which bytes left s.given
      × (new.failures ≡ counted_up (failed_of s.which) old.failures)
  -- two reels were read before the step that failed, and the third reader is left
  pub stopped_so : (old new : Seen) (a b c : List ℕ) (left : List (Option (List ℕ)))
      (fault : RunFault) (set : FileSet) (hs : List MountEvent)
      (s : HasStopped old (Reel ∷ Reel ∷ Save ∷ Reel ∷ []) (a ∷ b ∷ c ∷ []) left 2 fault new)
      → IsLawful set → IsHistory set (length old.notes) (Reel ∷ Reel ∷ []) s.given hs
      → IsSession set old → StopsStep set old hs Save (c ∷ []) fault new
  pub nothing_stops_none : (old new : Seen) (bytes : List (List ℕ))
      (left : List (Option (List ℕ))) (n : ℕ) (fault : RunFault)
      → HasStopped old [] bytes left n fault new → ⊥
  -- readers are counted
  pub two_reels : reels_in (Reel ∷ Save ∷ Restart 0 ∷ Reel ∷ []) ≡ 2
  -- only a rollback in which the sink's device failed loses the sink's contents
  pub loses : LosesParts (Reel ∷ Restart 4 ∷ []) 1 (Sink sinks.Device)
  pub mount_keeps : LosesParts (Reel ∷ Restart 4 ∷ []) 0 (Sink sinks.Device) → ⊥
  pub save_keeps : LosesParts (Save ∷ Restart 4 ∷ []) 0 (Sink sinks.Device) → ⊥
  pub other_keeps : (LosesParts (Restart 4 ∷ []) 0 (Sink sinks.Failed) → ⊥)
      × (LosesParts (Restart 4 ∷ []) 0 NoSuchPoint → ⊥)
