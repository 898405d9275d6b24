-- The states that a crash leaves of a session in which a step failed.
use Rattle.std.proofs.Common.{◌≡◌, ◌⊎◌, ℕ, ◌+◌, ◌-◌, Bool, true, false, List, [], ◌∷◌, length}
use Rattle.std.proofs.Common.{Option, Some, None, IfSome, slice_get, refl, sym, ap, subst, ◌∙◌, inl}
use Rattle.std.proofs.Common.{inr, arith}
use Rattle.tape_blocks.specs.Block.{Portion}
use Rattle.tape_core.specs.{Crash.AddsNothing, Crash.AddsOnly, Place.rest_of, Point.Point}
use Rattle.tape_core.specs.{Stands.weight_of, Table.saved, Weight.IsFront}
use Rattle.tape_core.specs.declared.sink.PartSink.{Ghosts}
use Rattle.tape_core.proofs.Crashes.{only_among, only_same, only_then}
use Rattle.tape_run.specs.Crash.{IsHere, IsNoteOf, IsLast, IsHeld, KeepsLast, LeavesStep}
use Rattle.tape_run.specs.declared.fault.RunFault.TheVariants.{Sink, NoSuchPoint, TooFewReels}
use Rattle.tape_run.specs.{Crash.LeavesSaved, Crash.IsWalked, Seen.Seen, Seen.seen, Seen.IsKept}
use Rattle.tape_run.specs.declared.fault.RunFault.TheVariants.{OutOfMemory, OtherFile}
use Rattle.tape_run.specs.{Given.is_device, declared.fault.RunFault.RunFault}
use Rattle.tape_run.specs.{Stopping.RefusesSave, declared.reel_reader.ReelAnswer.ReelAnswer}
use Rattle.tape_run.specs.{Reeling.IsKeptFor, Reeling.counts_differ, Steps.Reeled, Steps.SaveFails}
use Rattle.tape_run.specs.{SessionState.SessionState, declared.fault.EngineFault.TheVariants.Run}
use Rattle.tape_run.proofs.{Crashes.only_nothing, Sessions.kept_at}
use Rattle.tape_run.proofs.Notes.{front_self, front_trans, same_front}

-- ---- one step

-- nothing more comes back
pub nothing_left : {S : Type 0} (g : Ghosts S) (goes : Bool) (unsaved : Type 0)
    (a b : SessionState S) (held : List Portion)
    → AddsNothing (g.crashes a.sink) (g.crashes b.sink) → LeavesStep g goes unsaved a held b
nothing_left g goes unsaved a b held adds =
    only_nothing _ (g.crashes a.sink) (g.crashes b.sink) adds

-- the session is unchanged
pub same_left : {S : Type 0} (g : Ghosts S) (goes : Bool) (unsaved : Type 0) (a : SessionState S)
    (held : List Portion) → LeavesStep g goes unsaved a held a
same_left g goes unsaved a held = only_same _ (g.crashes a.sink)

-- a checkpoint of the session's position was to be made
stays_left : {S : Type 0} (g : Ghosts S) (goes : Bool) (unsaved : Type 0) (a b : SessionState S)
    (held now : List Portion) → g.holds b.sink now
    → ((seen g b now).place ≡ (seen g a held).place) × (now ≡ held) → unsaved
    → AddsOnly (IsHere (seen g a held)) (g.crashes a.sink) (g.crashes b.sink)
    → LeavesStep g goes unsaved a held b
stays_left {S} g goes unsaved a b held now has (place, parts) refused =
    only_among (IsHere (seen g a held)) _ (g.crashes a.sink) (g.crashes b.sink) here
  where
    here : (back : Point) (there : List Portion) → IsHere (seen g a held) back there
        → ((goes ≡ true) × IsLast (seen g a held) back there)
        ⊎ (unsaved × IsHeld g held b back there)
    here back there (is, all) =
        inr (
          refused,
          (
            subst (g.holds b.sink) (parts ∙ sym all) has,
            subst (IsFront held) (sym all) (front_self held),
            is ∙ ap (λ z. saved z (weight_of held)) (sym place)
                ∙ ap (λ l. saved (rest_of b.core) (weight_of l)) (sym all),
          ),
        )

-- after a reel the sink refused a save, or memory ran out before it was called
pub save_left : {S R : Type 0} (g : Ghosts S) (remaining : R → Option (List ℕ)) (goes : Bool)
    (fault : RunFault) (image : R) (left : Option (List ℕ)) (answer : ReelAnswer) (old : Seen)
    (a b : SessionState S) (held now : List Portion) → g.holds b.sink now
    → IfSome (remaining image) (λ bytes. Reeled bytes left (is_device answer.fault) old
    (seen g a held)) → counts_differ answer.answer ≡ false
    → SaveFails fault (seen g a held) (seen g b now) → (fault ≡ OutOfMemory → b.sink ≡ a.sink)
    → AddsOnly (IsHere (seen g a held)) (g.crashes a.sink) (g.crashes b.sink)
    → LeavesStep g goes (RefusesSave remaining old (Some image) (Run fault) (rest_of b.core)) a
    held b
save_left {S} {R} g remaining goes (Sink cause) image left answer old a b held now has reeled sure
    fails memory adds =
    stays_left g goes _ a b held now has (fails.place, fails.parts)
    (read (remaining image) reeled) adds
  where
    read : (had : Option (List ℕ))
        → IfSome had (λ bytes. Reeled bytes left (is_device answer.fault) old (seen g a held))
        → IfSome had (λ bytes. (left : Option (List ℕ)) × (answer : ReelAnswer) × (mid : Seen)
        × Reeled bytes left (is_device answer.fault) old mid
        × (counts_differ answer.answer ≡ false) × (mid.place ≡ rest_of b.core))
    read None r = tt
    read (Some bytes) r = (left, answer, seen g a held, r, sure, sym fails.place)
save_left g remaining goes NoSuchPoint image left answer old a b held now has reeled sure fails
    memory adds = absurd fails
save_left g remaining goes TooFewReels image left answer old a b held now has reeled sure fails
    memory adds = absurd fails
save_left {S} g remaining goes OutOfMemory image left answer old a b held now has reeled sure fails
    memory adds =
    let P = λ (s : S). AddsOnly (λ back there. ((goes ≡ true) × IsLast (seen g a held) back there)
    ⊎ (⊥ × IsHeld g held b back there)) (g.crashes a.sink) (g.crashes s) in
    subst P (sym (memory refl)) (only_same _ (g.crashes a.sink))
save_left g remaining goes OtherFile image left answer old a b held now has reeled sure fails
    memory adds = absurd fails

-- the last checkpoint of a session, if there is one
pub last_of : (notes : List Point) (n : ℕ) (c : Point) → n ≡ length notes - 1
    → slice_get notes n ≡ Some c → length notes ≡ n + 1
last_of [] n c last e = absurd (cc e)
last_of (d ∷ notes) n c last e = omega (arith, last)

-- the session rolled back, or did not
pub restart_left : {S : Type 0} (g : Ghosts S) (unsaved : Type 0) (a b : SessionState S)
    (held : List Portion) (n : ℕ) → n ≡ length a.notes - 1
    → AddsOnly (IsNoteOf n (seen g a held)) (g.crashes a.sink) (g.crashes b.sink)
    → LeavesStep g true unsaved a held b
restart_left {S} g unsaved a b held n last =
    only_among (IsNoteOf n (seen g a held)) _ (g.crashes a.sink) (g.crashes b.sink)
    (λ back there i. inl (refl, (n, last_of a.notes n back last i.0, i)))

-- ---- after a reel

-- the last checkpoint was made before the reel, with parts that existed then
last_before : (old mid : Seen) → mid.notes ≡ old.notes → IsFront old.parts mid.parts → IsKept old
    → (back : Point) (there : List Portion) → IsLast mid back there → IsLast old back there
last_before old mid notes front kept back there (n, count, (is, f, w)) =
    let noted : slice_get old.notes n ≡ Some back = ap (λ l. slice_get l n) (sym notes) ∙ is in
    let at = kept_at old.place [] old.notes n back old.parts noted kept in
    let same : there ≡ at.ps = same_front there at.ps mid.parts f
    (front_trans at.ps old.parts mid.parts at.is_front front) (w ∙ at.note.staged) in (
      n,
      ap length (sym notes) ∙ count,
      (noted, subst (λ z. IsFront z old.parts) (sym same) at.is_front, w),
    )

-- a reel was read, and the step after it failed
pub left_then : {S : Type 0} (g : Ghosts S) (goes : Bool) (unsaved : Type 0)
    (a b c : SessionState S) (held now : List Portion) → b.notes ≡ a.notes → IsFront held now
    → IsKeptFor goes (seen g a held)
    → AddsNothing (g.crashes a.sink) (g.crashes b.sink) → LeavesStep g goes unsaved b now c
    → LeavesStep g goes unsaved a held c
left_then {S} g goes unsaved a b c held now notes front kept adds =
    only_then _ _ (g.crashes a.sink) (g.crashes b.sink) (g.crashes c.sink) among
    (only_nothing _ (g.crashes a.sink) (g.crashes b.sink) adds)
  where
    among : (back : Point) (there : List Portion)
        → ((goes ≡ true) × IsLast (seen g b now) back there)
        ⊎ (unsaved × IsHeld g now c back there)
        → ((goes ≡ true) × IsLast (seen g a held) back there)
        ⊎ (unsaved × IsHeld g held c back there)
    among back there (inl (is, last)) = inl (
      is,
      last_before (seen g a held) (seen g b now) notes front
          (subst (λ z. IsKeptFor z (seen g a held)) is kept) back there last,
    )
    among back there (inr (refused, (has, more, here))) =
        inr (refused, (has, front_trans held now there front more, here))

-- ---- over images

-- The images before it were processed, and then a step failed.
pub left_saved : {S : Type 0} (g : Ghosts S) (goes : Bool) (unsaved : Type 0)
    (a b c : SessionState S) (held now : List Portion) → KeepsLast g a held b now
    → LeavesStep g goes unsaved b now c → LeavesSaved g unsaved a held (seen g b now) c
left_saved {S} g goes unsaved a b c held now keeps step = record {
  comes = λ h back there x. elim (step.now back there x) [
    | inl y ↦ inl (keeps.last h back there y)
    | inr (inl last) ↦ inl last.1
    | inr (inr held) ↦ inr held
  ];
  adds = λ none back there x. elim (step.now back there x) [
    | inl y ↦ elim (keeps.adds none back there y) [
      | inl z ↦ inl z
      | inr last ↦ inr (inl last)
    ]
    | inr (inl last) ↦ inr (inl last.1)
    | inr (inr held) ↦ inr (inr held)
  ];
  same = keeps.same;
  survives = λ x. step.survives (keeps.survives x);
  no_fewer = keeps.no_fewer;
  since = λ t le none h back there x.
      elim (step.since t back there (omega (arith, le, keeps.later)) x) [
        | inl y ↦ inl (keeps.since t le none h back there y)
        | inr (inl last) ↦ inl last.1
        | inr (inr held) ↦ inr held
      ];
  survived = λ t le x. step.survived t (omega (arith, le, keeps.later)) (keeps.survived t le x);
}

-- The images were processed, and then a walk over the sink was made.
pub left_walked : {S : Type 0} (g : Ghosts S) (goes : Bool) (unsaved : Type 0)
    (a b c : SessionState S) (held now : List Portion) → KeepsLast g a held b now
    → IsWalked g b c → g.holds b.sink now → LeavesSaved g unsaved a held (seen g b now) c
left_walked g goes unsaved a b c held now last walked has =
    left_saved g goes unsaved a b c held now last
    (nothing_left g goes unsaved b c now (walked.crash now has))

-- rounds were made before
pub left_behind : {S : Type 0} (g : Ghosts S) (unsaved : Type 0) (a b c : SessionState S)
    (held between : List Portion) (now : Seen) → KeepsLast g a held b between
    → LeavesSaved g unsaved b between now c → LeavesSaved g unsaved a held now c
left_behind g unsaved a b c held between now keeps leaves = record {
  comes = λ h. leaves.comes (λ d. keeps.last (λ e. h (d ∙ e)));
  adds = λ none back there x.
      let then : length now.notes ≡ length b.notes =
      omega (arith, none, keeps.no_fewer, leaves.no_fewer) in
      elim (leaves.adds then back there x) [
        | inl y ↦ elim (keeps.adds (omega (arith, none, then)) back there y) [
          | inl z ↦ inl z
          | inr last ↦ inr (inl (leaves.same then back there last))
        ]
        | inr left ↦ inr left
      ];
  same = λ none back there last.
      leaves.same (omega (arith, none, keeps.no_fewer, leaves.no_fewer)) back there
      (keeps.same (omega (arith, none, keeps.no_fewer, leaves.no_fewer)) back there last);
  survives = λ x. leaves.survives (keeps.survives x);
  no_fewer = omega (arith, keeps.no_fewer, leaves.no_fewer);
  since = λ t le same h. leaves.since t (omega (arith, le, keeps.later))
      (omega (arith, same, keeps.no_fewer, leaves.no_fewer))
      (keeps.since t le (omega (arith, same, keeps.no_fewer, leaves.no_fewer)) h);
  survived = λ t le x. leaves.survived t (omega (arith, le, keeps.later))
      (keeps.survived t le x);
}
