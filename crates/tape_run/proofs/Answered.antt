-- A script whose checkpoints exist is refused only by a sink or for lack of memory.
use Rattle.std.proofs.Common.{Bool, ◌≡◌, ℕ, zero, suc, ◌+◌, ◌<◌, List, [], ◌∷◌, length, map, take}
use Rattle.std.proofs.Common.{drop, Option, Some, ap, subst, ◌∙◌, arith, length-append, slice_get}
use Rattle.std.proofs.lemmas.Option.{slice_get_within}
use Rattle.tape_set.specs.Layout.{FileSet}
use Rattle.tape_run.specs.{Mount.MountEvent, Headline.reels_in, Seen.Seen, History.IsHistory}
use Rattle.tape_run.specs.declared.{script.Step.Step, fault.RunFault.RunFault}
use Rattle.tape_run.specs.declared.script.Step.TheVariants.{Reel, Save, Restart}
use Rattle.tape_run.specs.declared.fault.RunFault.TheVariants.{Sink, NoSuchPoint, TooFewReels}
use Rattle.tape_run.specs.declared.fault.RunFault.TheVariants.{OutOfMemory, OtherFile}
use Rattle.tape_run.specs.Runs.{Runs, RunsUpTo, Fails, IsRefusal}
use Rattle.tape_run.specs.Steps.{ReelFails, SaveFails, RestartFails}
use Rattle.tape_run.proofs.Headline.{took_so_many}

reel_refusal : (fault : RunFault) (b : List ℕ) (old new : Seen) → ReelFails b fault old new
    → IsRefusal fault
reel_refusal (Sink cause) b old new h = tt
reel_refusal NoSuchPoint b old new h = h
reel_refusal TooFewReels b old new h = h
reel_refusal OutOfMemory b old new h = tt
reel_refusal OtherFile b old new h = h

save_refusal : (fault : RunFault) (old new : Seen) → SaveFails fault old new → IsRefusal fault
save_refusal (Sink cause) old new h = tt
save_refusal NoSuchPoint old new h = h
save_refusal TooFewReels old new h = h
save_refusal OutOfMemory old new h = tt
save_refusal OtherFile old new h = h

restart_refusal : (fault : RunFault) (n : ℕ) (old new : Seen) → n < length old.notes
    → RestartFails n fault old new → IsRefusal fault
restart_refusal (Sink cause) n old new lt h = tt
restart_refusal NoSuchPoint n old new lt (le, e) = absurd (omega (arith, lt, le))
restart_refusal TooFewReels n old new lt h = h
restart_refusal OutOfMemory n old new lt h = absurd h
restart_refusal OtherFile n old new lt h = h

-- of the first step
first_refusal : (step : Step) (steps : List Step) (bytes given : List (List ℕ)) (fault : RunFault)
    (old new : Seen) (set : FileSet) (h : MountEvent) (hs : List MountEvent)
    → length given ≡ length bytes → Fails step (map Some bytes) fault old new
    → IsHistory set (length old.notes) (step ∷ steps) given (h ∷ hs) → IsRefusal fault
first_refusal Reel steps bytes [] fault old new set x hs m f h = absurd h
first_refusal Reel steps [] (g ∷ given) fault old new set x hs m f h = absurd (omega (arith, m))
first_refusal Reel steps (b ∷ bs) (g ∷ given) fault old new set x hs m f h = reel_refusal _ _ _ _ f
first_refusal Save steps bytes given fault old new set x hs m f h = save_refusal fault old new f
first_refusal (Restart k) steps bytes given fault old new set x hs m f (e, less, h) =
    restart_refusal fault k old new less f

same_step : (step other : Step) → Some step ≡ Some other → other ≡ step
same_step step other e = cc

at_step : (n : ℕ) (step : Step) (which : List Bool) (old mid new : Seen) (steps : List Step)
    (bytes given : List (List ℕ)) (left : List (Option (List ℕ))) (fault : RunFault)
    (set : FileSet) (hs : List MountEvent)
    → length given ≡ length bytes → slice_get steps n ≡ Some step
    → Runs which old (take n steps) (map Some bytes) left mid
    → Fails step (drop (reels_in (take n steps)) (map Some bytes)) fault mid new
    → IsHistory set (length old.notes) steps given hs → IsRefusal fault
at_step n step which old mid new [] bytes given left fault set hs m is r f h =
    absurd (omega (arith, slice_get_within [] n step is))
at_step n step which old mid new (s ∷ steps) bytes given left fault set [] m is r f h = absurd h
at_step zero step which old mid new (s ∷ steps) bytes given left fault set (x ∷ hs) m is r f h =
    first_refusal s steps bytes given fault old new set x hs m
    (subst (λ (z : Step). Fails z (map Some bytes) fault old new) (same_step s step is)
    (subst (λ (z : Seen). Fails step (map Some bytes) fault z new) r.1 f)) h
at_step (suc n) step which old mid new (Reel ∷ steps) bytes [] left fault set (x ∷ hs) m is r f h =
    absurd h
at_step (suc n) step which old mid new (Reel ∷ steps) [] (g ∷ given) left fault set (x ∷ hs) m is r
    f h = absurd (omega (arith, m))
at_step (suc n) step [] old mid new (Reel ∷ steps) (b ∷ bs) (g ∷ given) left fault set (x ∷ hs) m is
    r f h = absurd r
at_step (suc n) step (failed ∷ which) old mid new (Reel ∷ steps) (b ∷ bs) (g ∷ given) [] fault set
    (x ∷ hs) m is r f h = absurd r
at_step (suc n) step (failed ∷ which) old mid new (Reel ∷ steps) (b ∷ bs) (g ∷ given) (l ∷ left)
    fault set (x ∷ hs) m is (first, reeled, r) f (mount, h) =
    at_step n step which first mid new steps bs given left fault set hs (omega (arith, m)) is r f
    (rw reeled.notes h)
at_step (suc n) step which old mid new (Save ∷ steps) bytes given left fault set (x ∷ hs) m is
    (first, v, r) f (e, h) =
    let count : length first.notes ≡ length old.notes + 1 =
    ap length v.notes ∙ length-append old.notes _ in
    at_step n step which first mid new steps bytes given left fault set hs m is r f (rw count h)
at_step (suc n) step which old mid new (Restart k ∷ steps) bytes given left fault set (x ∷ hs) m is
    (first, w, r) f (e, less, h) =
    let count : length first.notes ≡ k + 1 = ap length w.notes ∙ took_so_many k old.notes less in
    at_step n step which first mid new steps bytes given left fault set hs m is r f (rw count h)

pub answered : (which : List Bool) (old new : Seen) (steps : List Step)
    (bytes given : List (List ℕ)) (left : List (Option (List ℕ))) (n : ℕ) (fault : RunFault)
    (set : FileSet) (hs : List MountEvent)
    → length given ≡ length bytes → RunsUpTo which old steps (map Some bytes) left n fault new
    → IsHistory set (length old.notes) steps given hs → IsRefusal fault
answered which old new steps bytes given left n fault set hs m r h =
    at_step _ _ _ _ _ _ _ _ _ _ _ _ _ m r.at r.runs r.fails h
