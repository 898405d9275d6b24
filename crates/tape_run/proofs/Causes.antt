-- The causes for which records were not written: the cause of one call, if no call before it was
-- refused.
use Rattle.std.proofs.Common.{◌≡◌, ◌<◌, ℕ, suc, ◌+◌, List, [], ◌∷◌, ◌++◌, take, Bool, refl}
use Rattle.std.proofs.Common.{sym, inl, inr, subst, ◌∙◌, arith}
use Rattle.tape_blocks.specs.{Block.Portion}
use Rattle.tape_core.specs.{Weight.Rose, Weight.IsFront, Point.Point}
use Rattle.tape_core.specs.{declared.sink.PartSink.Ghosts, declared.sink.SinkFault.SinkFault}
use Rattle.tape_run.specs.declared.fault.RunFault.TheVariants.{Sink, NoSuchPoint, TooFewReels}
use Rattle.tape_run.specs.declared.fault.RunFault.TheVariants.{OutOfMemory, OtherFile}
use Rattle.tape_run.specs.{SessionState.SessionState, Steps.IsRefused, Steps.Saved, Steps.WentBack}
use Rattle.tape_run.specs.declared.fault.EngineFault.{EngineFault}
use Rattle.tape_run.specs.declared.fault.EngineFault.TheVariants.{Run, WriteFailed}
use Rattle.tape_run.specs.Causes.{ExtractFails, ReadingFails, RefusesAny, IsCalm}
use Rattle.tape_run.specs.Seen.{seen, IsKept, IfSeen, IsSeen}

-- no call was refused before
pub refused_then : {S : Type 0} (refusals : S → ℕ) (refuses : S → SinkFault → S → Type 0)
    (old mid new : S) (fault : SinkFault) → refusals mid ≡ refusals old
    → IsRefused refusals refuses mid fault new → IsRefused refusals refuses old fault new
refused_then refusals refuses old mid new fault calm r = grind (arith)

-- ---- images

pub calm_same : {S : Type 0} (g : Ghosts S) (s : SessionState S) → IsCalm g s s
calm_same g s = record {
  calm = refl;
  notes = λ none. none;
  kept = λ held was kept. (held, was, kept);
}

pub calm_then : {S : Type 0} (g : Ghosts S) (old mid new : SessionState S) → IsCalm g old mid
    → IsCalm g mid new → IsCalm g old new
calm_then g old mid new a b = grind (arith)

-- a call after others none of which was refused
pub then_fails : {S : Type 0} (g : Ghosts S) (refuses : S → SinkFault → S → Type 0) (back : Bool)
    (fault : EngineFault) (old mid new : SessionState S) → IsCalm g old mid
    → ExtractFails g refuses back fault mid new → ExtractFails g refuses back fault old new
then_fails g refuses back (Run (Sink cause)) old mid new a (inl r) =
    inl (refused_then g.refusals refuses old.sink mid.sink new.sink cause a.calm r)
then_fails g refuses back (Run (Sink cause)) old mid new a (inr (is, none)) =
    inr (is, λ held was kept. let (now, has, still) = a.kept held was kept in none now has still)
then_fails g refuses back (Run NoSuchPoint) old mid new a (goes, none) = (goes, a.notes none)
then_fails g refuses back (Run TooFewReels) old mid new a h = h
then_fails g refuses back (Run OutOfMemory) old mid new a h = h ∙ a.calm
then_fails g refuses back (Run OtherFile) old mid new a h = h
then_fails g refuses back WriteFailed old mid new a h = h ∙ a.calm

-- after one more checkpoint there is one
no_longer_none : (notes : List Point) (point : Point) → notes ++ point ∷ [] ≡ [] → notes ≡ []
no_longer_none [] point e = refl
no_longer_none (c ∷ notes) point e = absurd (cc e)

pub calm_saved : {S : Type 0} (g : Ghosts S) (old new : SessionState S) (point : Point)
    → g.refusals new.sink ≡ g.refusals old.sink → new.notes ≡ old.notes ++ point ∷ []
    → IfSeen g old (λ was. IsSeen g new (λ is. (IsKept was → IsKept is) × Saved was is))
    → IsCalm g old new
calm_saved g old new point calm notes ok = grind (arith, no_longer_none)

-- the list of checkpoints up to one of them is not empty
none_taken : (n : ℕ) (notes : List Point) → take (n + 1) notes ≡ [] → notes ≡ []
none_taken n [] e = refl
none_taken n (c ∷ notes) e = absurd (
    let more : n + 1 ≡ suc n = omega arith in
    let some : take (suc n) (c ∷ notes) ≡ [] = subst (λ m. take m (c ∷ notes) ≡ []) more e in
    cc some)

pub calm_back : {S : Type 0} (g : Ghosts S) (old new : SessionState S) (n : ℕ)
    → g.refusals new.sink ≡ g.refusals old.sink → new.notes ≡ take (n + 1) old.notes
    → IfSeen g old (λ was. IsKept was
    → IsSeen g new (λ is. IsKept is × WentBack n was is))
    → IsCalm g old new
calm_back g old new n calm notes ok = grind (arith, none_taken)

-- a reel was read
pub calm_reel : {S : Type 0} (g : Ghosts S) (old new : SessionState S)
    (so : List Portion → List Portion → Type 0)
    → g.refusals new.sink ≡ g.refusals old.sink → new.notes ≡ old.notes
    → ((held : List Portion) → g.holds old.sink held → (now : List Portion)
    × g.holds new.sink now × (IsFront held now
    × (IsKept (seen g old held) → IsKept (seen g new now)) × so held now))
    → IsCalm g old new
calm_reel g old new so calm notes ok = grind (arith)

-- the images were not read
pub images_fail : {S : Type 0} (g : Ghosts S) (walk : S → SinkFault → S → Type 0)
    (back goes : Bool) (fault : EngineFault) (old new : SessionState S) → goes ≡ back
    → ReadingFails g goes fault old new → ExtractFails g (RefusesAny g walk) back fault old new
images_fail g walk back goes (Run (Sink cause)) old new same (inl r) = grind (arith)
images_fail g walk back goes (Run (Sink cause)) old new same (inr h) = inr h
images_fail g walk back goes (Run NoSuchPoint) old new same (goes_is, none) =
    (sym same ∙ goes_is, none)
images_fail g walk back goes (Run TooFewReels) old new same h = h
images_fail g walk back goes (Run OutOfMemory) old new same h = h
images_fail g walk back goes (Run OtherFile) old new same h = h
images_fail g walk back goes WriteFailed old new same h = h

-- ---- counts

-- a count that is unchanged, and not at its greatest value, did not increase
pub not_rose : (old new : ℕ) → new ≡ old → old < 18446744073709551615 → Rose old new → ⊥
not_rose old new same few (inl e) = absurd (omega (arith, same, e))
not_rose old new same few (inr e) = absurd (omega (arith, same, few, e))
