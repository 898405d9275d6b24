-- Examples for the definitions of a session and of its history, which show that none of them is too
-- weak or too strict. They are the contract of the call `laws::cases`.
use Rattle.std.specs.Prelude.{◌≡◌, ◌≤◌, ℕ, ◌+◌, Bool, true, false, List, [], ◌∷◌, ◌++◌, Option}
use Rattle.std.specs.Prelude.{length, take, slice_get, Some, None, IsSome}
use Rattle.tape_image.specs.declared.item.ImageCause.TheVariants.{Truncated, Device}
use Rattle.tape_image.specs.declared.item.ImageCause.TheVariants.{OutOfMemory as NoMemory}
use Rattle.tape_image.specs.{Tape.TapeItem, Tape.block, Tape.mark, Begins.Stop, Begins.Begins}
use Rattle.tape_blocks.specs.Block.{Portion}
use Rattle.tape_set.specs.{declared.position.Position.Position, Lawful.IsLawful, Before.before}
use Rattle.tape_set.specs.Position.{start, awaiting, at_part, next_block}
use Rattle.tape_set.specs.Layout.{FileSet, Volume, Section, items, entries, file_of}
use Rattle.tape_set.specs.{Reach.passes, Reading.Reading, Reading.IsReadingOf, Reading.as_read}
use Rattle.tape_core.specs.{declared.sink.SinkFault.SinkFault, Crash.Crashes, Point.Point}
use Rattle.tape_core.specs.{Place.IsPlaced, Place.place_of, Stands.Stands, Stands.weight_of}
use Rattle.tape_core.specs.{Table.saved, Table.reader_of, Weight.IsFront}
use Rattle.tape_run.specs.declared.fault.RunFault.TheVariants.{Sink, NoSuchPoint, TooFewReels}
use Rattle.tape_run.specs.Given.{is_device, IsGiven, AreGivenBy, counted, counted_up, failed_of}
use Rattle.tape_run.specs.Mount.{MountEvent, reads, foreign_reel, saves, restarts, IsMount}
use Rattle.tape_run.specs.Steps.{Reeled, ReelFails, SaveFails, RestartFails, WentBack, Saved}
use Rattle.tape_run.specs.{declared.fault.RunFault.RunFault, declared.script.Step.Step}
use Rattle.tape_run.specs.declared.fault.RunFault.TheVariants.{OutOfMemory, OtherFile}
use Rattle.tape_run.specs.declared.script.Step.TheVariants.{Reel, Save, Restart}
use Rattle.tape_run.specs.{Back.reels_of, Back.AreVolumes, Runs.Runs, Runs.RunsUpTo, Runs.Fails}
use Rattle.tape_run.specs.{CasesOfSaves.brings, CasesOfSaves.comes_now, Given.written}
use Rattle.tape_run.specs.{Crash.IsOf, Crash.LastAlone, Crash.StoodAt, Steps.StoppedBy}
use Rattle.tape_run.specs.Headline.{Ran, HasRun, IsStart, IsRead, begins}
use Rattle.tape_run.specs.History.{Course, IsHistory, course, course_of}
use Rattle.tape_run.specs.CrashRuns.{IsPlaceOf, ComesBack, IsResumed, AreHistories}
use Rattle.tape_run.specs.Mount.{IsMountOf, after_mount, cut}
use Rattle.tape_run.specs.Seen.{Seen, AreNotes, IsSession, IsKept}
use Rattle.tape_run.specs.WorkedHistory.{worked_set, vol1, hdr1, reading}

-- ---- what may be mounted

-- copies, foreign reels, and prefixes of both
pub record CasesOfMounts : Type 0 where
  -- each reading of a volume, complete or cut, with any unreadable items, is a mount of it
  pub readings : (set : FileSet) (r : Reading) → IsReadingOf set r
      → IsMount set (as_read (items set r.volume) r.good) (reads r)
  -- after a complete volume, of which only data blocks are bad, any items may follow
  pub more_behind : (set : FileSet) (r : Reading) (more : List TapeItem) → IsReadingOf set r
      → length r.good ≡ length (items set r.volume) → passes r.good (entries set r.volume) ≡ true
      → IsMount set (as_read (items set r.volume) r.good ++ more) (reads r)
  -- an image without a byte, and a reel that begins with a tape mark, are foreign
  pub empty_image : (set : FileSet) → IsMountOf set [] foreign_reel
  pub mark_first : (set : FileSet) (rest : List TapeItem) → IsMount set (mark ∷ rest) foreign_reel
  -- a volume of the set is not a foreign reel
  pub own_volume : (rest : List TapeItem)
      → IsMount worked_set (block vol1 ∷ block hdr1 ∷ rest) foreign_reel → ⊥
  -- an image may stop in any way after the items of a mount
  pub any_stop : (set : FileSet) (bytes : List ℕ) (xs : List TapeItem) (end : ℕ) (stop : Stop)
      (h : MountEvent) → Begins 0 bytes xs end stop → IsMount set xs h → IsMountOf set bytes h
  pub no_save : (set : FileSet) (xs : List TapeItem) → IsMount set xs saves → ⊥
  pub no_restart : (set : FileSet) (xs : List TapeItem) → IsMount set xs (restarts 0) → ⊥
  -- a prefix of a reading, and a reel that does not change the position
  pub cut_off : cut 2 (reads (reading 1 (true ∷ false ∷ true ∷ [])))
      ≡ reads (reading 1 (true ∷ false ∷ []))
  pub foreign_moves_nothing : (set : FileSet) (p : Position) → after_mount set 1 p foreign_reel ≡ p

-- ---- histories

-- two positions, and a position history with checkpoints at both
abbrev pub two_notes : Course
two_notes = record { at = awaiting 2 0; notes = start ∷ awaiting 1 1 ∷ [] }

-- scripts, their events, and where these lead
pub record CasesOfHistories : Type 0 where
  -- checkpoints are saved and rolled back to, and readers that the script does not use remain
  pub saved_and_back : (set : FileSet) (bytes : List ℕ)
      → IsHistory set 0 (Save ∷ Save ∷ Restart 1 ∷ Restart 0 ∷ []) (bytes ∷ [])
      (saves ∷ saves ∷ restarts 1 ∷ restarts 0 ∷ [])
  -- but there is no checkpoint before one is saved, nor one that was dropped
  pub no_note_yet : (set : FileSet) → IsHistory set 0 (Restart 0 ∷ []) [] (restarts 0 ∷ []) → ⊥
  pub forgotten : (set : FileSet)
      → IsHistory set 2 (Restart 0 ∷ Restart 1 ∷ []) [] (restarts 0 ∷ restarts 1 ∷ []) → ⊥
  pub other_note : (set : FileSet) → IsHistory set 2 (Restart 0 ∷ []) [] (restarts 1 ∷ []) → ⊥
  -- a reel is mounted if the script says so, and no event occurs that the script does not contain
  pub reel_mounted : (set : FileSet) (bytes : List ℕ) (h : MountEvent) → IsMountOf set bytes h
      → IsHistory set 0 (Reel ∷ []) (bytes ∷ []) (h ∷ [])
  pub no_reel : (set : FileSet) (h : MountEvent) → IsHistory set 0 (Reel ∷ []) [] (h ∷ []) → ⊥
  pub unasked : (set : FileSet) (h : MountEvent) → IsHistory set 0 [] [] (h ∷ []) → ⊥
  pub left_out : (set : FileSet) (s : Step) → IsHistory set 0 (s ∷ []) [] [] → ⊥
  -- where they lead: a save records the position, a rollback drops the later checkpoints, and a
  -- foreign reel and a missing checkpoint change nothing
  pub saved_course : course worked_set 1 two_notes (saves ∷ [])
      ≡ record { at = awaiting 2 0; notes = start ∷ awaiting 1 1 ∷ awaiting 2 0 ∷ [] }
  pub back_course : course worked_set 1 two_notes (restarts 0 ∷ [])
      ≡ record { at = start; notes = start ∷ [] }
  pub last_note : course worked_set 1 two_notes (restarts 1 ∷ [])
      ≡ record { at = awaiting 1 1; notes = start ∷ awaiting 1 1 ∷ [] }
  pub same_course : course worked_set 1 two_notes (foreign_reel ∷ restarts 2 ∷ []) ≡ two_notes

-- ---- what readers returned

-- bytes, readers that failed, and their count
pub record CasesOfGiven : Type 0 where
  -- a reader that failed returned exactly the bytes that it no longer has
  pub no_other : (left : Option (List ℕ)) → IsGiven true (1 ∷ 2 ∷ []) left (2 ∷ []) → ⊥
  pub front : IsGiven true (1 ∷ 2 ∷ []) (Some (2 ∷ [])) (1 ∷ [])
  pub no_less : (given : List ℕ) → IsGiven true (1 ∷ 2 ∷ []) (Some (2 ∷ [])) given
      → length given ≡ 1
  pub untold : (bytes given : List ℕ) → IsGiven true bytes None given → ⊥
  -- readers that failed are counted up to the greatest number
  pub calm : counted false 3 ≡ 3
  pub one : counted true 3 ≡ 4
  pub greatest : counted true 18446744073709551615 ≡ 18446744073709551615
  pub two : counted_up 2 3 ≡ 5
  -- readers, with a list of those that failed
  pub second_failed : (b c d : List ℕ) → AreGivenBy (false ∷ true ∷ []) (b ∷ c ∷ d ∷ [])
      (None ∷ Some c ∷ None ∷ []) (b ∷ [] ∷ d ∷ [])
  pub just_the_second : (b c d e l : List ℕ) → AreGivenBy (false ∷ true ∷ []) (b ∷ c ∷ [])
      (None ∷ Some l ∷ []) (d ∷ e ∷ []) → (d ≡ b) × (c ≡ e ++ l)
  pub not_taken : (bytes given : List (List ℕ)) (left : List (Option (List ℕ)))
      → AreGivenBy [] bytes left given → given ≡ bytes
  pub none_there : (bytes : List ℕ) (l : Option (List ℕ)) → (AreGivenBy (true ∷ []) [] [] [] → ⊥)
      × (AreGivenBy (true ∷ []) (bytes ∷ []) [] (bytes ∷ []) → ⊥)
      × (AreGivenBy (true ∷ []) (bytes ∷ []) (l ∷ []) [] → ⊥)
  pub two_of_three : failed_of (true ∷ false ∷ true ∷ []) ≡ 2
  pub as_far_as_it_reaches : written (true ∷ false ∷ true ∷ []) (false ∷ true ∷ [])
      ≡ true ∷ false ∷ []
  pub the_rest_stays : written (true ∷ []) (false ∷ true ∷ []) ≡ true ∷ true ∷ []
  -- only the device's fault means that a reader failed
  pub device : is_device (Some (record { place = 9; cause = Device })) ≡ true
  pub no_fault : is_device None ≡ false
  pub in_the_bytes : is_device (Some (record { place = 9; cause = Truncated })) ≡ false
  pub of_memory : is_device (Some (record { place = 9; cause = NoMemory })) ≡ false

-- ---- the images of all volumes

abbrev pub on_one_volume : List ℕ → Volume → List (List Section) → FileSet
on_one_volume id v files = record { set_id = id; volumes = v ∷ []; files = files }

-- images of a complete set
pub record CasesOfVolumes : Type 0 where
  pub one_image : (id : List ℕ) (v : Volume) (files : List (List Section)) (bytes : List ℕ)
      (end : ℕ) (stop : Stop) → Begins 0 bytes (items (on_one_volume id v files) 1) end stop
      → AreVolumes (on_one_volume id v files) 0 (bytes ∷ [])
  pub one_lacks : (id : List ℕ) (v : Volume) (files : List (List Section))
      → AreVolumes (on_one_volume id v files) 0 [] → ⊥
  pub one_too_many : (id : List ℕ) (v : Volume) (files : List (List Section)) (bytes : List ℕ)
      → AreVolumes (on_one_volume id v files) 1 (bytes ∷ []) → ⊥
  pub a_reel_each : (b c : List ℕ) → reels_of (b ∷ c ∷ []) ≡ Reel ∷ Reel ∷ []

-- ---- sessions

-- sessions, and the items read of a file
pub record CasesOfSessions : Type 0 where
  pub its_course : (s : Seen) (c : Point) → s.notes ≡ c ∷ []
      → course_of s ≡ record { at = s.place.position; notes = c.position ∷ [] }
  pub session : (set : FileSet) (s : Seen) → IsSession set s
      → IsPlaced set s.place s.parts × AreNotes set s.place.file [] s.notes s.parts
  -- a checkpoint is valid for a prefix of the parts
  pub one_note : (set : FileSet) (c : Point) (parts : List Portion)
      → Stands set 1 c [] → AreNotes set 1 [] (c ∷ []) parts
  pub note_stands : (set : FileSet) (c : Point) (parts : List Portion)
      (n : AreNotes set 1 [] (c ∷ []) parts) → Stands set 1 c n.0 × IsFront n.0 parts
  pub kept_note : (s : Seen) (c : Point) → s.notes ≡ c ∷ [] → IsKept s
      → (ps : List Portion) × IsFront ps s.parts × (c.set_id ≡ s.place.set_id)
      × (c.file ≡ s.place.file) × (c.staged ≡ weight_of ps)
  -- if all steps succeeded the session is where the history leads
  pub ran : (set : FileSet) (old new : Seen) (hs : List MountEvent) → Ran set old hs new
      → IsSession set new × (new.place.file ≡ old.place.file)
      × (course set old.place.file (course_of old) hs ≡ course_of new)
  pub has_run : (old new : Seen) (steps : List Step) (bytes : List (List ℕ))
      (left : List (Option (List ℕ))) (set : FileSet)
      (hs : List MountEvent) (r : HasRun old steps bytes left new) → IsLawful set
      → IsHistory set (length old.notes) steps r.given hs → IsSession set old
      → Ran set old hs new × AreGivenBy r.which bytes left r.given
      × (new.failures ≡ counted_up (failed_of r.which) old.failures)
  pub starts : (id : List ℕ) (file : ℕ) (s : Seen) → IsStart id file s
      → (s.place ≡ reader_of id file) × (s.notes ≡ []) × (s.failures ≡ 0) × (s.parts ≡ [])
  pub begins_file : (set : FileSet) (file : ℕ) (s : Seen) → IsStart set.set_id file s
      → IsLawful set → IsSome (file_of set file)
      → IsSession set s × (s.place.file ≡ file) × (course_of s ≡ begins)
  pub was_read : (set : FileSet) (file : ℕ) (steps : List Step) (bytes : List (List ℕ))
      (left : List (Option (List ℕ))) (s : Seen)
      (hs : List MountEvent) (r : IsRead set.set_id file steps bytes left s) → IsLawful set
      → IsSome (file_of set file) → IsHistory set 0 steps r.given hs
      → (course_of s ≡ course set file begins hs)
      × (s.parts ≡ before set file (course set file begins hs).at)
      × AreGivenBy r.which bytes left r.given × (s.failures ≡ counted_up (failed_of r.which) 0)

-- ---- steps that succeeded, and runs that were stopped

-- single steps
pub record CasesOfMade : Type 0 where
  -- if the reader failed, it returned the bytes that it no longer has; parts and checkpoints are
  -- unchanged
  pub was_reeled : (bytes : List ℕ) (left : Option (List ℕ)) (failed : Bool) (old new : Seen)
      (r : Reeled bytes left failed old new) → IsGiven failed bytes left r.given
      × (new.failures ≡ counted failed old.failures) × (new.notes ≡ old.notes)
      × (new.refusals ≡ old.refusals) × IsFront old.parts new.parts
  pub same_reader : (bytes : List ℕ) (left : Option (List ℕ)) (failed : Bool) (old new : Seen)
      → Reeled bytes left failed old new
      → (new.place.set_id ≡ old.place.set_id) × (new.place.file ≡ old.place.file)
  pub mount_was_read : (bytes : List ℕ) (left : Option (List ℕ)) (failed : Bool) (old new : Seen)
      (set : FileSet) (h : MountEvent) (r : Reeled bytes left failed old new) → IsLawful set
      → IsMountOf set r.given h
      → IsPlaced set old.place old.parts → IsPlaced set new.place new.parts
      × (new.place.position ≡ after_mount set old.place.file old.place.position h)
  pub nothing_was_made : (which : List Bool) (old new : Seen) → Runs which old [] [] [] new
      → (which ≡ []) × (new ≡ old)
  pub no_reel_was_there : (failed other : Bool) (old new : Seen) (bytes : List ℕ)
      (l : Option (List ℕ))
      → Runs (failed ∷ other ∷ []) old (Reel ∷ Reel ∷ []) (Some bytes ∷ []) (l ∷ []) new → ⊥
  pub none_is_told : (old new : Seen) (bytes : List ℕ) (l : Option (List ℕ))
      → Runs [] old (Reel ∷ []) (Some bytes ∷ []) (l ∷ []) new → ⊥
  pub none_is_left : (failed : Bool) (old new : Seen) (bytes : List ℕ)
      → Runs (failed ∷ []) old (Reel ∷ []) (Some bytes ∷ []) [] new → ⊥
  -- a step follows the one before it, with the reader that the one before left
  pub two_were_made : (old new : Seen) (bytes : List ℕ) (l : Option (List ℕ))
      → Runs (true ∷ []) old (Save ∷ Reel ∷ Restart 1 ∷ []) (Some bytes ∷ []) (l ∷ []) new
      → (first : Seen) × (second : Seen) × Saved old first
      × Reeled bytes l true first second × WentBack 1 second new
  -- a checkpoint has the session's position, with the weight of its parts
  pub was_saved : (old new : Seen) → Saved old new
      → (new.notes ≡ old.notes ++ saved old.place (weight_of old.parts) ∷ [])
      × (new.place ≡ old.place) × (new.parts ≡ old.parts)
      × (new.failures ≡ old.failures) × (new.refusals ≡ old.refusals)
  pub went_back : (old new : Seen) (w : WentBack 1 old new)
      → (slice_get old.notes 1 ≡ Some w.point) × (new.place ≡ place_of w.point)
      × IsFront new.parts old.parts × (weight_of new.parts ≡ w.point.staged)
      × (new.notes ≡ take 2 old.notes) × (new.failures ≡ old.failures)
      × (new.refusals ≡ old.refusals)
  -- The step with the reported number failed, and those before it succeeded, each with its reader.
  -- There is no such step after the last one.
  pub second_was_not : (old new : Seen) (fault : RunFault) (bytes : List ℕ) (l : Option (List ℕ))
      → RunsUpTo (true ∷ []) old (Reel ∷ Reel ∷ Save ∷ []) (Some bytes ∷ []) (l ∷ []) 1 fault new
      → (mid : Seen) × Reeled bytes l true old mid × (fault ≡ TooFewReels) × (new ≡ mid)
  pub third_was_not : (old new : Seen) (fault : RunFault) (bytes other : List ℕ)
      (l m : Option (List ℕ))
      → RunsUpTo (false ∷ []) old (Save ∷ Reel ∷ Reel ∷ []) (Some bytes ∷ Some other ∷ [])
      (l ∷ m ∷ []) 2 fault new → (first : Seen) × (mid : Seen) × Saved old first
      × Reeled bytes l false first mid × ReelFails other fault mid new
  pub none_behind : (old new : Seen) (fault : RunFault)
      → RunsUpTo [] old (Save ∷ Save ∷ []) [] [] 2 fault new → ⊥
  pub fails : (old new : Seen) (fault : RunFault) (reels : List (Option (List ℕ)))
      → (Fails Save reels fault old new → SaveFails fault old new)
      × (Fails (Restart 3) reels fault old new → RestartFails 3 fault old new)
  -- why a step failed, and the state that it left
  pub save_refused : (cause : SinkFault) (old new : Seen) → SaveFails (Sink cause) old new
      → (new.place ≡ old.place) × (new.parts ≡ old.parts) × (new.notes ≡ old.notes)
      × (new.failures ≡ old.failures)
  pub save_fails : (old new : Seen) → (SaveFails NoSuchPoint old new → ⊥)
      × (SaveFails TooFewReels old new → ⊥) × (SaveFails OtherFile old new → ⊥)
      × (SaveFails OutOfMemory old new → new ≡ old)
  pub restart_refused : (cause : SinkFault) (old new : Seen) → RestartFails 0 (Sink cause) old new
      → (new.place ≡ old.place) × (new.parts ≡ old.parts) × (new.notes ≡ old.notes)
      × (new.failures ≡ old.failures)
  pub restart_fails : (old new : Seen) → (RestartFails 0 TooFewReels old new → ⊥)
      × (RestartFails 0 OutOfMemory old new → ⊥) × (RestartFails 0 OtherFile old new → ⊥)
  pub no_such_note : (old new : Seen) (n : ℕ) → RestartFails n NoSuchPoint old new
      → (length old.notes ≤ n) × (new ≡ old)
  pub reel_refused : (cause : SinkFault) (bytes : List ℕ) (old new : Seen)
      → ReelFails bytes (Sink cause) old new → IsFront old.parts new.parts × (new.notes ≡ old.notes)
      × (new.failures ≡ old.failures) × (new.place.file ≡ old.place.file)
  pub stopped_by : (set : FileSet) (old new : Seen) (xs : List TapeItem) (h : MountEvent)
      (s : StoppedBy set old.place.file old.place.position xs h new.place new.parts)
      → IsPlaced set new.place new.parts × (slice_get xs s.n ≡ Some (block s.content))
      × (after_mount set old.place.file old.place.position (cut (s.n + 1) h)
      ≡ next_block (after_mount set old.place.file old.place.position (cut s.n h)))
      × (new.place.position
      ≡ at_part s.part (after_mount set old.place.file old.place.position (cut s.n h)))
  pub reel_fails : (bytes : List ℕ) (old new : Seen) → (ReelFails bytes NoSuchPoint old new → ⊥)
      × (ReelFails bytes TooFewReels old new → ⊥) × (ReelFails bytes OtherFile old new → ⊥)
      × (ReelFails bytes OutOfMemory old new → new ≡ old)

-- ---- crashes

-- the states that a crash leaves, and consecutive runs: after a crash at moment 4, and after one at
-- any moment up to 4
abbrev pub came_by : List Portion → Point → Crashes
came_by ps c = record {
  returns = λ back there. ⊥;
  survives = ⊥;
  moment = 4;
  returned = λ t back there. (t ≤ 4) × brings ps c back there;
  survived = λ t. ⊥;
}

pub record CasesOfCrashes : Type 0 where
  -- a place of a position history is its position, or one of its checkpoints
  pub its_place : (p q : Position) → IsPlaceOf (record { at = p; notes = [] }) q → q ≡ p
  pub noted_place : IsPlaceOf two_notes (awaiting 1 1)
  -- a session without checkpoints leaves its position, with its parts
  pub of_session : (s : Seen) (back : Point) (there : List Portion) → s.notes ≡ []
      → IsOf s back there → (back ≡ saved s.place (weight_of s.parts)) × (there ≡ s.parts)
  pub of_a_note : (s : Seen) (back : Point) (there : List Portion) → s.notes ≡ back ∷ []
      → IsFront there s.parts → weight_of there ≡ back.staged → IsOf s back there
  -- with one checkpoint, a crash leaves only that, now and from a past moment on
  pub alone : (s : Seen) (c p : Point) (ps : List Portion) → s.notes ≡ c ∷ []
      → LastAlone (comes_now ps p) s → p ≡ c
  pub alone_since : (s : Seen) (c p : Point) (ps : List Portion) → s.notes ≡ c ∷ []
      → LastAlone (came_by ps p) s → p ≡ c
  pub of_no_step : (s : Seen) (back : Point) (there : List Portion)
      → StoodAt s [] [] [] back there → IsOf s back there
  pub of_no_reel : (s : Seen) (left : List (Option (List ℕ))) (back : Point) (there : List Portion)
      → StoodAt s (Reel ∷ []) [] left back there → IsOf s back there
  pub of_none_left : (s : Seen) (bytes : List ℕ) (back : Point) (there : List Portion)
      → StoodAt s (Reel ∷ []) (Some bytes ∷ []) [] back there → IsOf s back there
  pub came_back : (old : Seen) (steps done : List Step) (bytes : List (List ℕ))
      (left : List (Option (List ℕ))) (given : List (List ℕ))
      (back : Point) (there : List Portion) (set : FileSet) (hs : List MountEvent)
      (c : ComesBack old steps done bytes left given back there) → IsLawful set
      → IsHistory set (length old.notes) done given hs → IsSession set old
      → Stands set old.place.file back there
      × IsPlaceOf (course set old.place.file (course_of old) hs) back.position
      × (steps ≡ done ++ c.rest) × AreGivenBy c.which bytes left given
  pub resumed : (c : Point) (ps : List Portion) (s : Seen) → IsResumed c ps s
      → (s.place ≡ place_of c) × (s.parts ≡ ps) × (s.notes ≡ []) × (s.failures ≡ 0)
  -- a run that saved, and was interrupted during its next reel, has a history
  pub saved_life : (set : FileSet) (s : Seen) → AreHistories set (record {
    began = s;
    steps = Save ∷ Reel ∷ [];
    bytes = [];
    left = [];
    done = Save ∷ [];
    given = [];
  } ∷ []) ((saves ∷ []) ∷ [])
