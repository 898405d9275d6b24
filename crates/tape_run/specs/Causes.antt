-- Why records were not written.
use Rattle.std.specs.Prelude.{◌≡◌, ◌≢◌, ◌⊎◌, ℕ, Bool, true, List, [], ⊤}
use Rattle.tape_blocks.specs.{Block.Portion, declared.parts.Form.Form}
use Rattle.tape_blocks.specs.declared.parts.Form.TheVariants.{Counted}
use Rattle.tape_core.specs.{declared.sink.PartSink.Ghosts, declared.sink.SinkFault.SinkFault}
use Rattle.tape_core.specs.declared.sink.SinkFault.TheVariants.{Failed}
use Rattle.tape_run.specs.declared.fault.RunFault.TheVariants.{Sink, NoSuchPoint, OutOfMemory}
use Rattle.tape_run.specs.{declared.fault.EngineFault.EngineFault, SessionState.SessionState}
use Rattle.tape_run.specs.declared.fault.RunFault.{RunFault}
use Rattle.tape_run.specs.declared.fault.EngineFault.TheVariants.{Run, WriteFailed}
use Rattle.tape_run.specs.{Seen.IsKept, Seen.IfSeen, Seen.IsSeen, Steps.IsRefused}

-- why a record or a part of one was not written: a write failed; or in the counted form there is no
-- memory for the record, or it is too long, and then `same` is true
abbrev pub RecordFails : Form → Type 0 → EngineFault → Type 0
RecordFails form same (Run cause) = (cause ≡ OutOfMemory) × (form ≡ Counted) × same
RecordFails form same WriteFailed = ⊤

-- why the records of a sink were not written: it refused a call with this fault; or it returned
-- fewer than were counted, which is only possible if its contents are unknown; or a write failed,
-- or in the counted form there was no memory for a record, and it refused none
abbrev pub WritingFails : {S : Type 0} → Form → (S → List Portion → Type 0) → (S → ℕ)
    → (S → SinkFault → S → Type 0) → S → S → EngineFault → Type 0
WritingFails form holds refusals refuses old new (Run (Sink cause)) =
    IsRefused refusals refuses old cause new
    ⊎ ((cause ≡ Failed) × ((parts : List Portion) → holds old parts → ⊥))
WritingFails form holds refusals refuses old new (Run OutOfMemory) =
    (form ≡ Counted) × (refusals new ≡ refusals old)
WritingFails form holds refusals refuses old new WriteFailed = refusals new ≡ refusals old
WritingFails form holds refusals refuses old new fault = ⊥

-- why images were not read, or the records of a session's sink not written, by one that rolls back
-- or not: the sink refused a call with this fault; or it has failed, which is only possible if its
-- contents are unknown; or memory ran out, or a write failed, and the sink refused no call. A
-- session without a checkpoint does not roll back.
abbrev pub ExtractFails : {S : Type 0} → Ghosts S → (S → SinkFault → S → Type 0) → Bool
    → EngineFault → SessionState S → SessionState S → Type 0
ExtractFails g refuses back (Run (Sink cause)) old new =
    IsRefused g.refusals refuses old.sink cause new.sink
    ⊎ ((cause ≡ Failed) × IfSeen g old (λ was. IsKept was → ⊥))
ExtractFails g refuses back (Run NoSuchPoint) old new = (back ≡ true) × (old.notes ≡ [])
ExtractFails g refuses back (Run OutOfMemory) old new = g.refusals new.sink ≡ g.refusals old.sink
ExtractFails g refuses back WriteFailed old new = g.refusals new.sink ≡ g.refusals old.sink
ExtractFails g refuses back fault old new = ⊥

-- why images were not read: the sink refused a change
abbrev pub ReadingFails : {S : Type 0} → Ghosts S → Bool → EngineFault → SessionState S
    → SessionState S → Type 0
ReadingFails g = ExtractFails g g.refuses_change

-- a change of the sink was refused, or a part of its walk
abbrev pub RefusesAny : {S : Type 0} → Ghosts S → (S → SinkFault → S → Type 0) → S → SinkFault → S
    → Type 0
RefusesAny g walk old fault new = g.refuses_change old fault new ⊎ walk old fault new

-- one of two calls of a sink was refused
abbrev pub RefusesWalk : {S : Type 0} → (S → SinkFault → S → Type 0)
    → (S → SinkFault → S → Type 0) → S → SinkFault → S → Type 0
RefusesWalk one other old fault new = one old fault new ⊎ other old fault new

-- why an image was not opened: the sink refused a call of a walk over its parts; or memory ran out,
-- and it refused none
abbrev pub OpeningFails : {S : Type 0} → Ghosts S → (S → SinkFault → S → Type 0) → RunFault
    → SessionState S → SessionState S → Type 0
OpeningFails g refuses (Sink cause) old new =
    IsRefused g.refusals refuses old.sink cause new.sink
OpeningFails g refuses OutOfMemory old new = g.refusals new.sink ≡ g.refusals old.sink
OpeningFails g refuses fault old new = ⊥

-- No call of the sink was refused, a session with checkpoints still has one, and the invariant of
-- sessions is preserved.
pub record IsCalm {S : Type 0} (g : Ghosts S) (old new : SessionState S) : Type 0 where
  pub calm : g.refusals new.sink ≡ g.refusals old.sink
  pub notes : new.notes ≡ [] → old.notes ≡ []
  pub kept : IfSeen g old (λ was. IsKept was → IsSeen g new (λ is. IsKept is))

-- a record is unfinished, or another form was written than is requested
abbrev pub CannotEnd : Bool → Form → Form → Type 0
CannotEnd begun form asked = (begun ≡ true) ⊎ (form ≢ asked)

-- why the output of a sink was not finished: it cannot be finished; or it can, and the writer
-- failed, or was given up before
abbrev pub EndingFails : Bool → Form → Form → EngineFault → Type 0
EndingFails begun form asked (Run fault) = (fault ≡ Sink Failed) × CannotEnd begun form asked
EndingFails begun form asked WriteFailed = CannotEnd begun form asked → ⊥
