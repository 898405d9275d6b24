-- The effects of the steps of a run, one after another.
use Rattle.std.specs.Prelude.{◌≡◌, ℕ, Bool, List, [], ◌∷◌, length, map, take, drop, Option, Some}
use Rattle.std.specs.Prelude.{None, slice_get, ⊤, ◌⊎◌}
use Rattle.tape_set.specs.Layout.{FileSet}
use Rattle.tape_run.specs.declared.fault.RunFault.TheVariants.{Sink, TooFewReels, OutOfMemory}
use Rattle.tape_run.specs.Steps.{Reeled, Saved, WentBack, ReelFails, SaveFails, RestartFails}
use Rattle.tape_run.specs.{declared.fault.RunFault.RunFault, declared.script.Step.Step, Seen.Seen}
use Rattle.tape_run.specs.declared.script.Step.TheVariants.{Reel, Save, Restart}
use Rattle.tape_run.specs.{Headline.reels_in, Mount.MountEvent, History.IsHistory, Causes.IsCalm}
use Rattle.tape_run.specs.{SessionState.SessionState, Steps.Refuses, Steps.RefusesRestart}
use Rattle.tape_core.specs.declared.sink.PartSink.{Ghosts}

-- All steps succeeded, one after another, each reel with the next reader; the lists say whether the
-- reader failed, and which bytes it has left. After a reader that does not know its bytes nothing
-- is known.
abbrev pub Runs : List Bool → Seen → List Step → List (Option (List ℕ)) → List (Option (List ℕ))
    → Seen → Type 0
Runs which old [] reels left new = (which ≡ []) × (new ≡ old)
Runs [] old (Reel ∷ steps) reels left new = ⊥
Runs (failed ∷ which) old (Reel ∷ steps) [] left new = ⊥
Runs (failed ∷ which) old (Reel ∷ steps) (None ∷ reels) left new = ⊤
Runs (failed ∷ which) old (Reel ∷ steps) (Some bytes ∷ reels) [] new = ⊥
Runs (failed ∷ which) old (Reel ∷ steps) (Some bytes ∷ reels) (l ∷ left) new =
    (mid : Seen) × Reeled bytes l failed old mid × Runs which mid steps reels left new
Runs which old (Save ∷ steps) reels left new =
    (mid : Seen) × Saved old mid × Runs which mid steps reels left new
Runs which old (Restart n ∷ steps) reels left new =
    (mid : Seen) × WentBack n old mid × Runs which mid steps reels left new

-- The step failed, with these readers left, for this reason.
abbrev pub Fails : Step → List (Option (List ℕ)) → RunFault → Seen → Seen → Type 0
Fails Reel [] fault old new = (fault ≡ TooFewReels) × (new ≡ old)
Fails Reel (None ∷ reels) fault old new = ⊤
Fails Reel (Some bytes ∷ reels) fault old new = ReelFails bytes fault old new
Fails Save reels fault old new = SaveFails fault old new
Fails (Restart n) reels fault old new = RestartFails n fault old new

-- The first n steps succeeded, and the next one failed, for this reason.
pub record RunsUpTo (which : List Bool) (old : Seen) (steps : List Step)
    (reels left : List (Option (List ℕ))) (n : ℕ) (fault : RunFault) (new : Seen) : Type 0 where
  pub step : Step
  pub at : slice_get steps n ≡ Some step
  pub mid : Seen
  pub runs : Runs which old (take n steps) reels left mid
  pub fails : Fails step (drop (reels_in (take n steps)) reels) fault mid new

-- The reason why the step failed, for any sink, whether or not the readers' bytes are known.
abbrev pub RefusesStep : {S : Type 0} → Ghosts S → Step → RunFault → SessionState S
    → SessionState S → Type 0
RefusesStep g Reel fault old new = Refuses g fault old new ⊎ ((fault ≡ TooFewReels) × (new ≡ old))
RefusesStep g Save fault old new = Refuses g fault old new
RefusesStep g (Restart n) fault old new = RefusesRestart g n fault old new

-- The step with this number failed, for this reason, and no call of the sink was refused before.
pub record StopsFor {S : Type 0} (g : Ghosts S) (steps : List Step) (n : ℕ) (fault : RunFault)
    (old new : SessionState S) : Type 0 where
  pub step : Step
  pub at : slice_get steps n ≡ Some step
  pub mid : SessionState S
  pub calm : IsCalm g old mid
  pub refuses : RefusesStep g step fault mid new

-- the sink refused a call, or memory ran out
abbrev pub IsRefusal : RunFault → Type 0
IsRefusal (Sink cause) = ⊤
IsRefusal OutOfMemory = ⊤
IsRefusal fault = ⊥

-- Only a refusal can stop a run over a script with existing checkpoints and enough readers.
abbrev pub OnlyRefusalsStop : Type 0
OnlyRefusalsStop = (which : List Bool) (old new : Seen) (steps : List Step)
    (bytes given : List (List ℕ)) (left : List (Option (List ℕ))) (n : ℕ) (fault : RunFault)
    (set : FileSet) (hs : List MountEvent) → length given ≡ length bytes
    → RunsUpTo which old steps (map Some bytes) left n fault new
    → IsHistory set (length old.notes) steps given hs → IsRefusal fault
