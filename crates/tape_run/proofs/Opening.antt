-- Images opened for a session, perhaps after a walk over its sink.
use Rattle.std.proofs.Common.{◌≡◌, ◌⊎◌, inl, inr, refl, sym, ap, subst, Bool, ◌∙◌, ℕ, List}
use Rattle.std.proofs.Common.{Option, Result, IfErr, false}
use Rattle.std.proofs.lemmas.Result.{IfErr-weaker}
use Rattle.tape_set.specs.declared.position.Want.{Want}
use Rattle.tape_run.specs.Extracting.{Stops}
use Rattle.tape_core.specs.{State.State, declared.sink.PartSink.Ghosts, Weight.IsFront}
use Rattle.tape_core.specs.declared.sink.SinkFault.{SinkFault}
use Rattle.tape_run.specs.declared.fault.RunFault.{RunFault}
use Rattle.tape_run.specs.declared.fault.RunFault.TheVariants.{Sink, NoSuchPoint, TooFewReels}
use Rattle.tape_run.specs.declared.fault.RunFault.TheVariants.{OutOfMemory, OtherFile}
use Rattle.tape_run.specs.declared.fault.EngineFault.{EngineFault}
use Rattle.tape_run.specs.declared.fault.EngineFault.TheVariants.{Run, WriteFailed}
use Rattle.tape_run.specs.{SessionState.SessionState, Crash.IsWalked, Steps.IsRefused}
use Rattle.tape_run.specs.Causes.{ExtractFails, ReadingFails, RefusesAny, RefusesWalk, OpeningFails}
use Rattle.tape_run.specs.Causes.{IsCalm}
use Rattle.tape_run.specs.{Reeling.Mounting, Rounds.StopsInRound}
use Rattle.tape_run.specs.{Reeling.Carries, Reeling.IsKeptFor, Seen.Seen, Seen.seen, Seen.IsKept}
use Rattle.tape_run.proofs.{Lasting.walked_seen, Lasting.last_then, Lasting.last_stays}
use Rattle.tape_run.proofs.Notes.{front_self}

pub calm_walked : {S : Type 0} (g : Ghosts S) (a b : SessionState S) → IsWalked g a b
    → g.refusals b.sink ≡ g.refusals a.sink → IsCalm g a b
calm_walked g a b w calm = record {
  calm = calm;
  notes = λ none. sym w.notes ∙ none;
  kept = λ held was kept. (
    held,
    w.kept held was,
    subst IsKept (walked_seen g a b held w calm) kept,
  );
}

-- a walk over the sink after images
pub carries_walked : {S : Type 0} (g : Ghosts S) (back : Bool) (a b c : SessionState S)
    (so : State → Seen → Seen → Type 0) → Carries g back a b (so b.core) → IsWalked g b c
    → g.refusals c.sink ≡ g.refusals b.sink → Carries g back a c (so c.core)
carries_walked g back a b c so f w calm held was kept =
    let (now, has, (still, follows, last)) = f held was kept in
    let same : seen g b now ≡ seen g c now = walked_seen g b c now w calm in (
      now,
      w.kept now has,
      (
        subst (IsKeptFor back) same still,
        subst (λ k. so k (seen g a held) (seen g c now)) (sym w.core)
            (subst (so b.core (seen g a held)) same follows),
        last_then g a b c held now now last (last_stays g b c now now w.notes (front_self now)
            (w.crash now has)),
      ),
    )

-- an image was not opened
pub opening_fails : {S : Type 0} (g : Ghosts S) (refuses : S → SinkFault → S → Type 0)
    (back : Bool) (fault : RunFault) (old new : SessionState S)
    → OpeningFails g refuses fault old new
    → ExtractFails g (RefusesAny g refuses) back (Run fault) old new
opening_fails g refuses back (Sink cause) old new r = inl (record {
  mid = r.mid;
  calm = r.calm;
  why = inr r.why;
  counted = r.counted;
})
opening_fails g refuses back OutOfMemory old new r = r
opening_fails g refuses back NoSuchPoint old new r = absurd r
opening_fails g refuses back TooFewReels old new r = absurd r
opening_fails g refuses back OtherFile old new r = absurd r

-- a weaker condition under which the sink refuses a call
pub fails_by : {S : Type 0} (g : Ghosts S) (one other : S → SinkFault → S → Type 0)
    (back goes : Bool) (fault : EngineFault) (old new : SessionState S) → goes ≡ back
    → ((a : S) (f : SinkFault) (b : S) → one a f b → other a f b)
    → ExtractFails g one goes fault old new → ExtractFails g other back fault old new
fails_by g one other back goes (Run (Sink cause)) old new same weaker (inl r) = inl (record {
  mid = r.mid;
  calm = r.calm;
  why = weaker r.mid cause new.sink r.why;
  counted = r.counted;
})
fails_by g one other back goes (Run (Sink cause)) old new same weaker (inr h) = inr h
fails_by g one other back goes (Run NoSuchPoint) old new same weaker (goes_is, none) =
    (sym same ∙ goes_is, none)
fails_by g one other back goes (Run TooFewReels) old new same weaker h = h
fails_by g one other back goes (Run OutOfMemory) old new same weaker h = h
fails_by g one other back goes (Run OtherFile) old new same weaker h = h
fails_by g one other back goes WriteFailed old new same weaker h = h

-- nothing but a change is refused while images are opened as they are
pub no_walk : {S : Type 0} (g : Ghosts S) (a : S) (f : SinkFault) (b : S)
    → RefusesAny g (λ x y z. ⊥) a f b → g.refuses_change a f b
no_walk g a f b (inl r) = r
no_walk g a f b (inr r) = absurd r

pub reading_fails : {S L R : Type 0} (g : Ghosts S) (size : ℕ) (gives : Mounting L R)
    (remaining : R → Option (List ℕ)) (back again : Bool) (old new : SessionState S)
    (shelf left : L) (said says : Option (List ℕ)) (fault : EngineFault)
    → StopsInRound g size gives remaining back again old new shelf left said says fault
    → ExtractFails g (RefusesAny g (λ x y z. ⊥)) back fault old new
    → ReadingFails g back fault old new
reading_fails g size gives remaining back again old new shelf left said says fault stops fails =
    fails_by g (RefusesAny g (λ x y z. ⊥)) g.refuses_change back back fault old new refl (no_walk g)
    fails

-- an engine that opens images as they are reads, or ends its output
pub reads_or : {S X : Type 0} (g : Ghosts S) (back : Bool) (fault : EngineFault)
    (old new : SessionState S) → ExtractFails g (RefusesAny g (λ x y z. ⊥)) back fault old new ⊎ X
    → ReadingFails g back fault old new ⊎ X
reads_or g back fault old new (inl e) = inl (fails_by g (RefusesAny g (λ x y z. ⊥))
    g.refuses_change back back fault old new refl (no_walk g) e)
reads_or g back fault old new (inr x) = inr x

pub streams : {S L R A : Type 0} (g : Ghosts S) (size : L → ℕ) (gives : Mounting L R)
    (remaining : R → Option (List ℕ)) (old new : SessionState S) (shelf left : L)
    (leaves : Type 0 → Option Want → Seen → Type 0) (said says : Option (List ℕ))
    (X : EngineFault → Type 0) (result : Result A EngineFault)
    → IfErr result (Stops g size gives remaining false false old new shelf left leaves said says)
    → IfErr result (λ f. ExtractFails g (RefusesAny g (λ x y z. ⊥)) false f old new ⊎ X f)
    → IfErr result (λ f. ReadingFails g false f old new ⊎ X f)
streams g size gives remaining old new shelf left leaves said says X result stops fails =
    IfErr-weaker result _ _ (λ f e. reads_or g false f old new e) fails

pub any_more : {S : Type 0} (g : Ghosts S) (walk : S → SinkFault → S → Type 0) (a : S)
    (f : SinkFault) (b : S) → RefusesAny g (λ x y z. ⊥) a f b → RefusesAny g walk a f b
any_more g walk a f b (inl r) = inl r
any_more g walk a f b (inr r) = absurd r

pub any_walk : {S : Type 0} (g : Ghosts S) (one other : S → SinkFault → S → Type 0) (a : S)
    (f : SinkFault) (b : S) → RefusesAny g other a f b
    → RefusesAny g (RefusesWalk one other) a f b
any_walk g one other a f b (inl r) = inl r
any_walk g one other a f b (inr r) = inr (inr r)
