-- The work of `extract` on images, ended by a fault: what was reported, and where the session is.
use Rattle.std.specs.Prelude.{◌≡◌, ◌≢◌, ◌⊎◌, ℕ, ◌+◌, ◌-◌, ◌<◌, ◌≤◌, List, length, map, Option, Some}
use Rattle.std.specs.Prelude.{None, IfSome, Bool, true, false}
use Rattle.std.specs.Io.KnownBytes.{Appends}
use Rattle.tape_core.specs.{Place.rest_of, declared.sink.PartSink.Ghosts}
use Rattle.tape_core.specs.{State.State, Weight.IsFront, declared.sink.SinkFault.TheVariants.Device}
use Rattle.tape_image.specs.Written.{AppendsFront}
use Rattle.tape_run.specs.Reeling.{Turn, answer_of, Mounting, AreFirstTurns, Follows, IsKeptFor}
use Rattle.tape_run.specs.Reeling.{counts_differ, is_suspect}
use Rattle.tape_run.specs.declared.fault.RunFault.TheVariants.{Sink}
use Rattle.tape_run.specs.{Crash.LeavesSaved, Given.is_device, ReelLine.reel_lines}
use Rattle.tape_run.specs.{SessionState.SessionState, declared.reel_reader.ReelAnswer.ReelAnswer}
use Rattle.tape_run.specs.Seen.{Seen, IsKept, IfSeen, IsSeen, IsSeenUnless}
use Rattle.tape_run.specs.Steps.{Reeled, ReelFails, SaveFails, RestartFails, Unmoved}
use Rattle.tape_run.specs.{declared.fault.EngineFault.EngineFault, declared.fault.RunFault.RunFault}
use Rattle.tape_run.specs.declared.fault.EngineFault.TheVariants.{Run, WriteFailed}

-- After a reel no checkpoint was made, for this reason; or a session that rolls back after a
-- suspect reel did not.
abbrev pub NotNoted : Bool → Bool → RunFault → Seen → Seen → Type 0
NotNoted back false fault old new = SaveFails fault old new
NotNoted false true fault old new = ⊥
NotNoted true true fault old new = RestartFails (length old.notes - 1) fault old new

-- After a reel that was read to its end and is not suspect, the sink refused to save this position.
abbrev pub RefusesSave : {R : Type 0} → (R → Option (List ℕ)) → Seen → Option R → EngineFault
    → State → Type 0
RefusesSave remaining old (Some image) (Run (Sink cause)) place = IfSome (remaining image)
    (λ bytes. (left : Option (List ℕ)) × (answer : ReelAnswer) × (mid : Seen)
    × Reeled bytes left (is_device answer.fault) old mid
    × (counts_differ answer.answer ≡ false) × (mid.place ≡ place))
RefusesSave remaining old image fault place = ⊥

-- Where a session is after a fault. If no image was open, as after a failed write, it is unmoved.
-- Otherwise the image, if its bytes are known, was not read to its end; or it was, and then no
-- checkpoint was made, or the session did not roll back.
abbrev pub StopsAt : {R : Type 0} → (R → Option (List ℕ)) → Bool → Bool → Seen → Option R
    → EngineFault → Seen → Type 0
StopsAt remaining back spares old None fault new = Unmoved old new
StopsAt remaining back spares old (Some image) (Run fault) new = IfSome (remaining image)
    (λ bytes. ReelFails bytes fault old new
    ⊎ ((left : Option (List ℕ)) × (answer : ReelAnswer) × (mid : Seen)
    × Reeled bytes left (is_device answer.fault) old mid
    × NotNoted back (is_suspect spares answer) fault mid new))
StopsAt remaining back spares old (Some image) WriteFailed new = ⊥

-- The session is there, with exactly the parts of its sink. Only a rollback in which the sink's
-- device failed may lose the sink's parts.
abbrev pub IsStopped : {S R : Type 0} → Ghosts S → (R → Option (List ℕ)) → Bool → Bool → Seen
    → Option R → EngineFault → SessionState S → Type 0
IsStopped g remaining back spares old image fault new =
    IsSeenUnless ((back ≡ true) × (fault ≡ Run (Sink Device))) g new
    (StopsAt remaining back spares old image fault)

-- The session read on: its sink contains the earlier parts and perhaps more, it has the same file
-- and checkpoints, and the invariant of sessions is preserved.
pub record HasReadOn (old new : Seen) : Type 0 where
  pub grows : IsFront old.parts new.parts
  pub notes : new.notes ≡ old.notes
  pub same_set : new.place.set_id ≡ old.place.set_id
  pub same_file : new.place.file ≡ old.place.file
  pub kept : IsKept old → IsKept new
  pub same_wide : new.wide ≡ old.wide

-- the same, for any parts of its sink
abbrev pub ReadsOnly : {S : Type 0} → Ghosts S → SessionState S → SessionState S → Type 0
ReadsOnly g old new = IfSeen g old (λ was. IsSeen g new (HasReadOn was))

-- Images were processed in their order until a fault ended the run. A line was reported for each of
-- them, and nothing of one that could not be read or saved; if a write failed, a prefix of these
-- lines was reported. The images after that one were not opened.
pub record StopsReading {S L R : Type 0} (g : Ghosts S) (size before : ℕ) (gives : Mounting L R)
    (remaining : R → Option (List ℕ)) (back spares : Bool) (old new : SessionState S)
    (shelf left : L) (said says : Option (List ℕ)) (fault : EngineFault) : Type 0 where
  pub turns : List Turn
  pub image : Option R
  pub are_turns : AreFirstTurns gives remaining shelf turns image left
  pub most : length turns ≤ size
  pub fewer : fault ≢ WriteFailed → length turns < size
  pub no_more : length turns ≡ size → image ≡ None
  pub lines : AppendsFront said says (reel_lines (before + 1) (map answer_of turns))
  pub told : fault ≢ WriteFailed → Appends said says (reel_lines (before + 1) (map answer_of turns))
  pub follows : IfSeen g old (λ was. IsKeptFor back was → (core : State) × (now : Seen)
      × Follows back spares old.core was turns core now
      × LeavesSaved g (RefusesSave remaining now image fault (rest_of new.core)) old was.parts now
      new
      × IsStopped g remaining back spares now image fault new)
