-- Examples for the definitions about sessions with known parts, and about readers that know their
-- bytes. They are the contract of the call `laws::cases`.
use Rattle.std.specs.Prelude.{◌≡◌, ◌⊎◌, ◌≤◌, ℕ, ◌+◌, List, [], ◌∷◌, length, ⊤, Bool, false, Some}
use Rattle.std.specs.Prelude.{None}
use Rattle.tape_blocks.specs.Block.{Portion}
use Rattle.tape_core.specs.{Crash.lost, Place.rest_of, Point.Point, Weight.Rose}
use Rattle.tape_core.specs.{declared.sink.PartSink.Ghosts, declared.sink.SinkFault.SinkFault}
use Rattle.tape_core.specs.declared.sink.SinkFault.TheVariants.{Device, Full, Failed}
use Rattle.tape_run.specs.declared.fault.RunFault.TheVariants.{Sink, NoSuchPoint, TooFewReels}
use Rattle.tape_run.specs.declared.fault.RunFault.TheVariants.{OutOfMemory, OtherFile}
use Rattle.tape_run.specs.Causes.{ExtractFails, ReadingFails, RefusesAny, IsCalm}
use Rattle.tape_run.specs.CasesOfSaves.{comes_now, weighing, holding_none}
use Rattle.tape_run.specs.{Crash.BringsNoMore, Crash.IsWalked, Crash.KeepsLast, Given.IfTold}
use Rattle.tape_run.specs.{Reeling.Carries, Reeling.IsKeptFor, Runs.RefusesStep, Runs.StopsFor}
use Rattle.tape_run.specs.{SessionState.SessionState, declared.fault.RunFault.RunFault}
use Rattle.tape_run.specs.Seen.{Seen, seen, IsKept, IfSeen, IsSeen, IsSeenUnless}
use Rattle.tape_run.specs.Steps.{IsRefused, Refuses, RefusesRestart}
use Rattle.tape_run.specs.declared.script.Step.TheVariants.{Reel, Save, Restart}
use Rattle.tape_run.specs.declared.fault.EngineFault.TheVariants as engine

-- a sink that consists of a number: it contains any list of as many parts, and has refused as many
-- calls, each with Device
abbrev pub counting : Ghosts ℕ
counting = record {
  holds = λ n parts. length parts ≡ n;
  weighs = λ n. 0;
  refusals = λ n. n;
  refuses_change = λ old fault new. fault ≡ Device;
  crashes = λ n. lost;
}

-- sessions with known parts
pub record CasesOfSeen : Type 0 where
  pub is_seen : (s : SessionState ℕ) (parts : List Portion)
      → (seen counting s parts).place ≡ rest_of s.core
  pub seen_counts : (s : SessionState ℕ) (parts : List Portion)
      → ((seen counting s parts).failures ≡ s.failures)
      × ((seen counting s parts).refusals ≡ s.sink)
  -- a sink that contains one part: any part is possible, but not an empty list
  pub each_part : (s : SessionState ℕ) (p : Portion) → s.sink ≡ 1
      → IfSeen counting s (λ is. is.parts ≡ p ∷ []) → (q : Portion) → q ≡ p
  pub no_others : (s : SessionState ℕ) → s.sink ≡ 1 → IfSeen counting s (λ is. is.parts ≡ [] → ⊥)
  pub some_part : (s : SessionState ℕ) (p : Portion) → s.sink ≡ 1
      → IsSeen counting s (λ is. is.parts ≡ p ∷ [])
  pub no_part : (s : SessionState ℕ) → s.sink ≡ 1 → IsSeen counting s (λ is. is.parts ≡ []) → ⊥
  -- a sink that lost its parts may contain any parts
  pub lost_parts : (s : SessionState ℕ) (parts : List Portion)
      → IsSeenUnless ⊤ counting s (λ is. is.parts ≡ parts)
  pub not_lost : (s : SessionState ℕ) → s.sink ≡ 1
      → IsSeenUnless ⊥ counting s (λ is. is.parts ≡ []) → ⊥
  -- a claim about known bytes is required only if each reader knows its bytes
  pub told : (a b : List ℕ) (all : List (List ℕ))
      → IfTold (λ r. r) (Some a ∷ Some b ∷ []) (λ bytes. bytes ≡ all) → all ≡ a ∷ b ∷ []
  pub both_told : (a b : List ℕ)
      → IfTold (λ r. r) (Some a ∷ Some b ∷ []) (λ bytes. bytes ≡ a ∷ b ∷ [])
  pub one_untold : (a : List ℕ) → IfTold (λ r. r) (Some a ∷ None ∷ []) (λ bytes. ⊥)
  -- a crash leaves the same as before, for a sink that contained parts
  pub brings_no_more : (old new : Point) → old.staged ≡ 0
      → BringsNoMore (weighing (comes_now [])) old new → new ≡ old
  pub of_no_parts : (old new : Point) → BringsNoMore (holding_none (comes_now [])) old new
  -- a session changes from its earlier state to its current one, with its checkpoints and the last
  -- of them
  pub carried : (back : Bool) (old new : SessionState Point) → old.sink.staged ≡ 0
      → new.sink.staged ≡ 0 → IsKeptFor back (seen (weighing (comes_now [])) old [])
      → Carries (weighing (comes_now [])) back old new
      (λ was is. is.place.file ≡ was.place.file + 1) → (new.core.file ≡ old.core.file + 1)
      × ((is : Seen) × IsKeptFor back is × (is.place ≡ rest_of new.core)
      × KeepsLast (weighing (comes_now [])) old [] new is.parts)
  pub not_kept : (back : Bool) (old new : SessionState Point)
      → ((was : Seen) → was.notes ≡ old.notes → IsKeptFor back was → ⊥)
      → Carries (weighing (comes_now [])) back old new (λ was is. ⊥)
  -- a reel is not read because the sink refused a part, or because memory was refused and nothing
  -- changed, and for no other reason
  pub reel_refused : (cause : SinkFault) (old new : SessionState ℕ)
      → Refuses counting (Sink cause) old new
      → (new.failures ≡ old.failures) × Rose old.sink new.sink × (cause ≡ Device)
  -- no call was refused before the one whose fault is reported
  pub refused_first : (cause : SinkFault) (old new : ℕ)
      → IsRefused (λ n. n) (λ mid fault after. (mid ≡ 7) × (fault ≡ Device)) old cause new
      → (old ≡ 7) × (cause ≡ Device) × Rose old new
  pub no_memory : (old new : SessionState ℕ) → Refuses counting OutOfMemory old new → new ≡ old
  pub no_other_fault : (old new : SessionState ℕ) → (Refuses counting NoSuchPoint old new → ⊥)
      × (Refuses counting TooFewReels old new → ⊥) × (Refuses counting OtherFile old new → ⊥)
  -- a session does not roll back because the sink refused the call, or weighs too little, which is
  -- only possible if its contents are unknown
  pub back_refused : (cause : SinkFault) (n : ℕ) (old new : SessionState ℕ)
      → RefusesRestart counting n (Sink cause) old new → (new.failures ≡ old.failures)
      × ((Rose old.sink new.sink × (cause ≡ Device)) ⊎ ((cause ≡ Failed) × (new.sink ≡ old.sink)
      × ((held : List Portion) → length held ≡ old.sink → IsKept (seen counting old held) → ⊥)))
  pub no_note : (n : ℕ) (old new : SessionState ℕ) → RefusesRestart counting n NoSuchPoint old new
      → (length old.notes ≤ n) × (new ≡ old)
  pub no_other_way : (n : ℕ) (old new : SessionState ℕ)
      → (RefusesRestart counting n TooFewReels old new → ⊥)
      × (RefusesRestart counting n OutOfMemory old new → ⊥)
      × (RefusesRestart counting n OtherFile old new → ⊥)
  -- a step fails for the reason of its call, or because no reader is left
  pub reel_not_made : (fault : RunFault) (old new : SessionState ℕ)
      → RefusesStep counting Reel fault old new
      → Refuses counting fault old new ⊎ ((fault ≡ TooFewReels) × (new ≡ old))
  pub save_not_made : (fault : RunFault) (old new : SessionState ℕ)
      → RefusesStep counting Save fault old new → Refuses counting fault old new
  pub back_not_made : (n : ℕ) (fault : RunFault) (old new : SessionState ℕ)
      → RefusesStep counting (Restart n) fault old new → RefusesRestart counting n fault old new
  pub second_not_made : (fault : RunFault) (old new : SessionState ℕ)
      (s : StopsFor counting (Save ∷ Reel ∷ []) 1 fault old new) → (s.step ≡ Reel)
      × (s.mid.sink ≡ old.sink) × RefusesStep counting s.step fault s.mid new
  -- images are not read because the sink refused a call, or failed with unknown contents; or,
  -- without a refusal, because memory ran out or a write failed
  pub not_extracted : (back : Bool) (cause : SinkFault) (old new : SessionState ℕ)
      → ReadingFails counting back (engine.Run (Sink cause)) old new
      → (Rose old.sink new.sink × (cause ≡ Device)) ⊎ ((cause ≡ Failed)
      × ((held : List Portion) → length held ≡ old.sink → IsKept (seen counting old held) → ⊥))
  pub refused_either : (back : Bool) (cause : SinkFault) (old new : SessionState ℕ)
      → ExtractFails counting (RefusesAny counting (λ mid fault after. fault ≡ Full)) back
      (engine.Run (Sink cause)) old new → (cause ≡ Device) ⊎ (cause ≡ Full) ⊎ (cause ≡ Failed)
  pub no_memory_to_extract : (back : Bool) (old new : SessionState ℕ)
      → (ReadingFails counting back (engine.Run OutOfMemory) old new → new.sink ≡ old.sink)
      × (ReadingFails counting back engine.WriteFailed old new → new.sink ≡ old.sink)
  -- a session with a checkpoint has no other fault, and neither has one that does not roll back
  pub noted : (back : Bool) (c : Point) (old new : SessionState ℕ) → old.notes ≡ c ∷ []
      → ReadingFails counting back (engine.Run NoSuchPoint) old new → ⊥
  pub goes_on : (old new : SessionState ℕ)
      → ReadingFails counting false (engine.Run NoSuchPoint) old new → ⊥
  pub no_other_end : (back : Bool) (old new : SessionState ℕ)
      → (ReadingFails counting back (engine.Run TooFewReels) old new → ⊥)
      × (ReadingFails counting back (engine.Run OtherFile) old new → ⊥)
  -- no call was refused
  pub none_refused : (old new : SessionState ℕ) → IsCalm counting old new → (new.sink ≡ old.sink)
      × (new.notes ≡ [] → old.notes ≡ []) × ((held : List Portion) → length held ≡ old.sink
      → IsKept (seen counting old held) → IsSeen counting new (λ is. IsKept is))
  -- only the sink of a session may differ, and it has the same contents
  pub walked : (old new : SessionState Point) (ps : List Portion) → old.sink.staged ≡ 0
      → IsWalked (weighing (comes_now ps)) old new → (new.core ≡ old.core)
      × (new.notes ≡ old.notes) × (new.failures ≡ old.failures) × (new.sink ≡ old.sink)
