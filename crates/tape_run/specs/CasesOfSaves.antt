-- Examples for the definitions of saves, and of the states that a crash leaves of a session. They
-- are the contract of the call `laws::cases`.
use Rattle.std.specs.Prelude.{◌≡◌, ◌≤◌, ◌⊎◌, ℕ, List, [], ◌∷◌, length, true, false, ⊤, Option, Some}
use Rattle.tape_blocks.specs.Block.{Portion}
use Rattle.tape_set.specs.declared.position.Position.TheVariants.{Finished}
use Rattle.tape_core.specs.{Crash.Crashes, Place.rest_of, Point.Point, Stands.weight_of}
use Rattle.tape_core.specs.{State.State, Table.saved, Weight.IsFront, declared.sink.PartSink.Ghosts}
use Rattle.tape_core.specs.declared.sink.SinkFault.{SinkFault}
use Rattle.tape_run.specs.Crash.{IsNoteOf, BringsLast, KeepsLast, LeavesSaved, is_saved}
use Rattle.tape_run.specs.{Reeling.StoodSaved, Reeling.counts_differ, Seen.Seen, Given.is_device}
use Rattle.tape_run.specs.{SessionState.SessionState, Steps.Reeled, Stopping.RefusesSave}
use Rattle.tape_run.specs.declared.fault.EngineFault.TheVariants.{Run}
use Rattle.tape_run.specs.declared.fault.RunFault.TheVariants.{OutOfMemory, Sink}
use Rattle.tape_run.specs.declared.reel_reader.ReelAnswer.{ReelAnswer}
use Rattle.tape_run.specs.declared.script.Step.TheVariants.{Reel, Save, Restart}

-- a sink that contains any parts, and of which a crash leaves one checkpoint and these parts
abbrev pub brings : List Portion → Point → Point → List Portion → Type 0
brings ps c back there = (back ≡ c) × (there ≡ ps)

-- after a crash now only, and after a crash since a moment only
abbrev pub comes_now : List Portion → Point → Crashes
comes_now ps c = record {
  returns = brings ps c;
  survives = c.position ≡ Finished;
  moment = 0;
  returned = λ t back there. ⊥;
  survived = λ t. ⊥;
}

abbrev pub comes_since : List Portion → Point → Crashes
comes_since ps c = record {
  returns = λ back there. ⊥;
  survives = ⊥;
  moment = c.file;
  returned = λ t. brings ps c;
  survived = λ t. c.position ≡ Finished;
}

-- a sink that consists of a checkpoint: it contains any parts of that weight, and a crash leaves it
-- unchanged
abbrev pub weighing : (Point → Crashes) → Ghosts Point
weighing crashes = record {
  holds = λ s parts. s.staged ≡ weight_of parts;
  weighs = λ s. s.staged;
  refusals = λ s. 0;
  refuses_change = λ old fault new. ⊥;
  crashes = crashes;
}

-- the same for a sink that cannot be trusted
abbrev pub holding_none : (Point → Crashes) → Ghosts Point
holding_none crashes = record {
  holds = λ s parts. ⊥;
  weighs = λ s. s.staged;
  refusals = λ s. 0;
  refuses_change = λ old fault new. ⊥;
  crashes = crashes;
}

-- the states that a crash leaves of a session that was saved
pub record CasesOfSaved : Type 0 where
  -- of two checkpoints, the first is left with its own parts, or only the last is left
  pub first_note : (s : Seen) (c d back : Point) (there : List Portion) → s.notes ≡ c ∷ d ∷ []
      → IsNoteOf 0 s back there
      → (back ≡ c) × IsFront there s.parts × (weight_of there ≡ back.staged)
  pub brings_last : (s : Seen) (c d p : Point) (ps : List Portion) → s.notes ≡ c ∷ d ∷ []
      → BringsLast (brings ps p) s → (p ≡ d) × IsFront ps s.parts × (weight_of ps ≡ p.staged)
  pub brings_none : (s : Seen) (p : Point) (ps : List Portion) → s.notes ≡ []
      → BringsLast (brings ps p) s → ⊥
  pub brings_nothing : (s : Seen) → BringsLast (λ back there. ⊥) s
  -- the checkpoint that was made meanwhile is left
  pub noted_on_the_way : (old new : SessionState Point) (held now ps : List Portion) (c : Point)
      → old.notes ≡ [] → new.notes ≡ c ∷ [] → KeepsLast (weighing (comes_now ps)) old held new now
      → (new.sink ≡ c) × IsFront ps now
  -- if no checkpoint was made, the only one left before is still left
  pub none_on_the_way : (old new : SessionState Point) (held now ps : List Portion) (c : Point)
      → old.notes ≡ c ∷ [] → new.notes ≡ c ∷ [] → old.sink ≡ c → IsFront ps held
      → weight_of ps ≡ c.staged → KeepsLast (weighing (comes_now ps)) old held new now
      → new.sink ≡ c
  -- if something survived every crash, something still does
  pub survives : (old new : SessionState Point) (held now : List Portion)
      → KeepsLast (weighing (comes_now [])) old held new now
      → old.sink.position ≡ Finished → new.sink.position ≡ Finished
  -- the same since a moment up to the first, if no checkpoint was made
  pub none_since : (old new : SessionState Point) (held now ps : List Portion) (c : Point) (t : ℕ)
      → old.notes ≡ c ∷ [] → new.notes ≡ c ∷ [] → old.sink ≡ c → IsFront ps held
      → weight_of ps ≡ c.staged → t ≤ old.sink.file
      → KeepsLast (weighing (comes_since ps)) old held new now → new.sink ≡ c
  pub survived : (old new : SessionState Point) (held now : List Portion) (t : ℕ)
      → t ≤ old.sink.file → KeepsLast (weighing (comes_since [])) old held new now
      → old.sink.position ≡ Finished → new.sink.position ≡ Finished
  pub goes_on : (old new : SessionState Point) (held now : List Portion)
      → KeepsLast (weighing (comes_since [])) old held new now
      → (length old.notes ≤ length new.notes) × (old.sink.file ≤ new.sink.file)
  -- without a checkpoint, nothing is left that could not be left before; one that exists remains
  pub none_added : (old new : SessionState Point) (held now ps : List Portion) → old.notes ≡ []
      → new.notes ≡ [] → KeepsLast (weighing (comes_now ps)) old held new now → new.sink ≡ old.sink
  pub same_last : (old new : SessionState Point) (held now ps : List Portion) (c d : Point)
      → old.notes ≡ c ∷ [] → new.notes ≡ d ∷ [] → IsFront ps held → weight_of ps ≡ c.staged
      → KeepsLast (weighing (comes_now [])) old held new now → c ≡ d
  -- a session at this position may be left, and its sink contains these parts
  pub stood : (old new : SessionState Point) (held ps : List Portion) (now : Seen) (c : Point)
      → old.notes ≡ [] → now.notes ≡ c ∷ [] → StoodSaved (weighing (comes_now ps)) old held
      new now
      → (new.sink ≡ c) × (now.place ≡ rest_of new.core)
      × IsFront ps now.parts × (c.staged ≡ weight_of now.parts)
  -- after a fault only the checkpoint made meanwhile, or the session's position, may be left
  pub left_at_a_fault : (old new : SessionState Point) (held ps : List Portion) (now : Seen)
      (c : Point)
      → old.notes ≡ [] → now.notes ≡ c ∷ [] → LeavesSaved (weighing (comes_now ps)) ⊤ old
      held now new
      → ((new.sink ≡ c) × IsFront ps now.parts)
      ⊎ ((new.sink.staged ≡ weight_of ps) × IsFront now.parts ps
      × (new.sink ≡ saved (rest_of new.core) (weight_of ps)))
  -- the position only if the sink refused to save it, after a reel that is not suspect
  pub unsaved : (bytes : List ℕ) (cause : SinkFault) (old : Seen) (place : State)
      → RefusesSave (λ (r : Option (List ℕ)). r) old (Some (Some bytes)) (Run (Sink cause)) place
      → (left : Option (List ℕ)) × (answer : ReelAnswer) × (mid : Seen)
      × Reeled bytes left (is_device answer.fault) old mid
      × (counts_differ answer.answer ≡ false) × (mid.place ≡ place)
  pub no_save : (image : Option (Option (List ℕ))) (old : Seen) (place : State)
      → RefusesSave (λ (r : Option (List ℕ)). r) old image (Run OutOfMemory) place → ⊥
  pub alone_at_a_fault : (old new : SessionState Point) (held ps : List Portion) (now : Seen)
      (c : Point)
      → old.notes ≡ c ∷ [] → now.notes ≡ c ∷ [] → old.sink ≡ c → IsFront ps held
      → weight_of ps ≡ c.staged
      → LeavesSaved (weighing (comes_now ps)) ⊥ old held now new → new.sink ≡ c
  pub none_added_at_a_fault : (old new : SessionState Point) (held ps : List Portion) (now : Seen)
      → old.notes ≡ [] → now.notes ≡ [] → LeavesSaved (weighing (comes_now ps)) ⊥ old held now new
      → new.sink ≡ old.sink
  pub survives_a_fault : (old new : SessionState Point) (held : List Portion) (now : Seen)
      → LeavesSaved (weighing (comes_now [])) ⊥ old held now new
      → old.sink.position ≡ Finished → new.sink.position ≡ Finished
  pub alone_up_to_a_fault : (old new : SessionState Point) (held ps : List Portion) (now : Seen)
      (c : Point) (t : ℕ) → old.notes ≡ c ∷ [] → now.notes ≡ c ∷ [] → old.sink ≡ c
      → IsFront ps held → weight_of ps ≡ c.staged → t ≤ old.sink.file
      → LeavesSaved (weighing (comes_since ps)) ⊥ old held now new → new.sink ≡ c
  pub survived_a_fault : (old new : SessionState Point) (held : List Portion) (now : Seen) (t : ℕ)
      → t ≤ old.sink.file → LeavesSaved (weighing (comes_since [])) ⊥ old held now new
      → old.sink.position ≡ Finished → new.sink.position ≡ Finished
  pub no_fewer_at_a_fault : (old new : SessionState Point) (held : List Portion) (now : Seen)
      → LeavesSaved (weighing (comes_since [])) ⊥ old held now new
      → length old.notes ≤ length now.notes
  -- whether only reels were read since the last save
  pub read_since : is_saved false (Reel ∷ Save ∷ Reel ∷ []) ≡ true
  pub went_back_since : is_saved true (Save ∷ Restart 0 ∷ Reel ∷ []) ≡ false
  pub never_saved : is_saved false (Reel ∷ Reel ∷ []) ≡ false
  pub saved_before : is_saved true (Reel ∷ []) ≡ true
  pub saved_again : is_saved false (Restart 0 ∷ Save ∷ []) ≡ true
