-- The effect of one step of a run, or the state that it leaves if it fails.
use Rattle.std.specs.Prelude.{◌≡◌, ℕ, ◌+◌, ◌≤◌, Bool, List, ◌∷◌, [], ◌++◌, length, take, Some}
use Rattle.std.specs.Prelude.{slice_get, Option, ◌⊎◌}
use Rattle.tape_image.specs.{Tape.TapeItem, Tape.block, Begins.Stop, Begins.Begins}
use Rattle.tape_set.specs.{Layout.FileSet, Lawful.IsLawful, Position.at_part, Position.next_block}
use Rattle.tape_set.specs.declared.position.Position.{Position}
use Rattle.tape_blocks.specs.Block.{Portion}
use Rattle.tape_core.specs.{Point.Point, State.State, Weight.IsFront, Weight.Rose}
use Rattle.tape_core.specs.{Table.saved, Table.mount_of, declared.sink.SinkFault.TheVariants.Failed}
use Rattle.tape_core.specs.{Stands.weight_of, Place.IsPlaced, Place.place_of, Place.rest_of}
use Rattle.tape_core.specs.{declared.sink.PartSink.Ghosts, declared.sink.SinkFault.SinkFault}
use Rattle.tape_run.specs.declared.fault.RunFault.{RunFault}
use Rattle.tape_run.specs.declared.fault.RunFault.TheVariants.{Sink, NoSuchPoint, OutOfMemory}
use Rattle.tape_run.specs.Mount.{MountEvent, IsMount, cut, after_mount}
use Rattle.tape_run.specs.ByTable.{PassedOver, IsLed, IsCutAt}
use Rattle.tape_run.specs.{Given.IsGiven, Given.counted, Seen.Seen}
use Rattle.tape_run.specs.{Seen.IsKept, Seen.IfSeen, SessionState.SessionState}

-- ---- steps that succeeded

-- A mount that began at p was read to its end: the reader's position is the one after the mount,
-- with the parts before that position.
pub record ReadBy (set : FileSet) (file : ℕ) (p : Position) (h : MountEvent) (place : State)
    (parts : List Portion) : Type 0 where
  pub at : IsPlaced set place parts
  pub position : place.position ≡ after_mount set file p h

-- A reel was read from this state of the core on, after items that it skipped, if any: its reader
-- returned all its bytes or, if it failed, those that it no longer has.
pub record ReeledFrom (start : State) (bytes : List ℕ) (left : Option (List ℕ)) (failed : Bool)
    (old new : Seen) : Type 0 where
  pub given : List ℕ
  pub is_given : IsGiven failed bytes left given
  pub count : new.failures ≡ counted failed old.failures
  pub notes : new.notes ≡ old.notes
  pub same_set : new.place.set_id ≡ old.place.set_id
  pub same_file : new.place.file ≡ old.place.file
  pub calm : new.refusals ≡ old.refusals
  pub same_wide : new.wide ≡ old.wide
  pub grows : IsFront old.parts new.parts
  pub reads : (set : FileSet) (front xs : List TapeItem) (end : ℕ) (stop : Stop) (h : MountEvent)
      → IsLawful set → PassedOver old.wide old.place front start → Begins 0 given xs end stop
      → IsMount set (front ++ xs) h → IsPlaced set old.place old.parts
      → ReadBy set old.place.file old.place.position h new.place new.parts
  pub table : (xs : List TapeItem) (end : ℕ) (stop : Stop) → Begins 0 given xs end stop
      → IsLed old.wide xs start new.place old.parts new.parts

-- A reel was mounted and read.
abbrev pub Reeled : List ℕ → Option (List ℕ) → Bool → Seen → Seen → Type 0
Reeled bytes left failed old new = ReeledFrom (mount_of old.place) bytes left failed old new

-- The checkpoint was made.
pub record Saved (old new : Seen) : Type 0 where
  pub place : new.place ≡ old.place
  pub parts : new.parts ≡ old.parts
  pub notes : new.notes ≡ old.notes ++ saved old.place (weight_of old.parts) ∷ []
  pub count : new.failures ≡ old.failures
  pub calm : new.refusals ≡ old.refusals
  pub same_wide : new.wide ≡ old.wide

-- The session rolled back to a checkpoint, with the first parts up to its weight, and dropped the
-- later checkpoints.
pub record WentBack (n : ℕ) (old new : Seen) : Type 0 where
  pub point : Point
  pub noted : slice_get old.notes n ≡ Some point
  pub place : new.place ≡ place_of point
  pub front : IsFront new.parts old.parts
  pub weighs : weight_of new.parts ≡ point.staged
  pub notes : new.notes ≡ take (n + 1) old.notes
  pub count : new.failures ≡ old.failures
  pub calm : new.refusals ≡ old.refusals
  pub same_wide : new.wide ≡ old.wide

-- the session has the position of the checkpoint with this number
abbrev pub IsAtNote : {S : Type 0} → ℕ → SessionState S → SessionState S → Type 0
IsAtNote n old new = (point : Point) → slice_get old.notes n ≡ Some point
    → rest_of new.core ≡ place_of point

-- ---- steps that failed

-- A mount that began at p was read up to the block expected there, the n-th item counted from 0, of
-- which the given part was refused: the reader's position is that part of the block, with the parts
-- before it.
pub record StoppedBy (set : FileSet) (file : ℕ) (p : Position) (xs : List TapeItem) (h : MountEvent)
    (place : State) (parts : List Portion) : Type 0 where
  pub at : IsPlaced set place parts
  pub n : ℕ
  pub content : List ℕ
  pub refused : slice_get xs n ≡ Some (block content)
  pub awaited : after_mount set file p (cut (n + 1) h)
      ≡ next_block (after_mount set file p (cut n h))
  pub part : ℕ
  pub position : place.position ≡ at_part part (after_mount set file p (cut n h))

-- A reel was read from this state of the core on, after items that it skipped, if any, up to a part
-- that the sink refused: the session's position is this part.
pub record CutShort (start : State) (bytes : List ℕ) (old new : Seen) : Type 0 where
  pub count : new.failures ≡ old.failures
  pub notes : new.notes ≡ old.notes
  pub same_set : new.place.set_id ≡ old.place.set_id
  pub same_file : new.place.file ≡ old.place.file
  pub same_wide : new.wide ≡ old.wide
  pub grows : IsFront old.parts new.parts
  pub stops : (set : FileSet) (front xs : List TapeItem) (end : ℕ) (stop : Stop) (h : MountEvent)
      → IsLawful set → PassedOver old.wide old.place front start → Begins 0 bytes xs end stop
      → IsMount set (front ++ xs) h → IsPlaced set old.place old.parts
      → StoppedBy set old.place.file old.place.position (front ++ xs) h new.place new.parts
  pub table : (xs : List TapeItem) (end : ℕ) (stop : Stop) → Begins 0 bytes xs end stop
      → IsCutAt old.wide xs start new.place old.parts new.parts

-- the session as before, except for the count of refused calls
pub record Unmoved (old new : Seen) : Type 0 where
  pub place : new.place ≡ old.place
  pub parts : new.parts ≡ old.parts
  pub notes : new.notes ≡ old.notes
  pub count : new.failures ≡ old.failures
  pub same_wide : new.wide ≡ old.wide

-- The state after a reel that was not read to its end, because memory was refused before, or
-- because the sink refused a part. Whether the sink did refuse a call is in `Refuses`.
abbrev pub ReelFailsFrom : State → List ℕ → RunFault → Seen → Seen → Type 0
ReelFailsFrom start bytes (Sink cause) old new = CutShort start bytes old new
ReelFailsFrom start bytes OutOfMemory old new = new ≡ old
ReelFailsFrom start bytes fault old new = ⊥

-- the same for a reel that was mounted
abbrev pub ReelFails : List ℕ → RunFault → Seen → Seen → Type 0
ReelFails bytes fault old new = ReelFailsFrom (mount_of old.place) bytes fault old new

-- The sink refused a call with this fault, for a reason of its own, and no call before it.
pub record IsRefused {S : Type 0} (refusals : S → ℕ) (refuses : S → SinkFault → S → Type 0)
    (old : S) (fault : SinkFault) (new : S) : Type 0 where
  pub mid : S
  pub calm : refusals mid ≡ refusals old
  pub why : refuses mid fault new
  pub counted : Rose (refusals old) (refusals new)

-- Why a reel was not read to its end, or no checkpoint was made, for any sink, whether or not a
-- reader knows its bytes: the sink refused a call with this fault, or memory was refused, and
-- nothing changed.
abbrev pub Refuses : {S : Type 0} → Ghosts S → RunFault → SessionState S → SessionState S → Type 0
Refuses g (Sink cause) old new = (new.failures ≡ old.failures)
    × IsRefused g.refusals g.refuses_change old.sink cause new.sink
Refuses g OutOfMemory old new = new ≡ old
Refuses g fault old new = ⊥

-- Why a session did not roll back, for any sink: the sink refused a call with this fault, or weighs
-- less than the checkpoint says, which is only possible if its contents are unknown; or there is no
-- such checkpoint.
abbrev pub RefusesRestart : {S : Type 0} → Ghosts S → ℕ → RunFault → SessionState S
    → SessionState S → Type 0
RefusesRestart g n (Sink cause) old new = (new.failures ≡ old.failures)
    × (IsRefused g.refusals g.refuses_change old.sink cause new.sink
    ⊎ ((cause ≡ Failed) × (g.refusals new.sink ≡ g.refusals old.sink)
    × IfSeen g old (λ was. IsKept was → ⊥)))
RefusesRestart g n NoSuchPoint old new = (length old.notes ≤ n) × (new ≡ old)
RefusesRestart g n fault old new = ⊥

-- the state if no checkpoint was made; whether the sink did refuse a call is in `Refuses`
abbrev pub SaveFails : RunFault → Seen → Seen → Type 0
SaveFails (Sink cause) old new = Unmoved old new
SaveFails OutOfMemory old new = new ≡ old
SaveFails fault old new = ⊥

-- the state if the session did not roll back; whether the sink did refuse a call is in
-- `RefusesRestart`
abbrev pub RestartFails : ℕ → RunFault → Seen → Seen → Type 0
RestartFails n (Sink cause) old new = Unmoved old new
RestartFails n NoSuchPoint old new = (length old.notes ≤ n) × (new ≡ old)
RestartFails n fault old new = ⊥
