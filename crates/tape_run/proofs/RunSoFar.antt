-- A run, up to a step.
use Rattle.std.proofs.Common.{◌≡◌, ℕ, ◌+◌, ◌≤◌, Bool, true, false, List, [], ◌∷◌, ◌++◌, length, map}
use Rattle.std.proofs.Common.{take, drop, Option, sym, ap, subst, ◌∙◌, arith}
use Rattle.std.proofs.lemmas.List.{drop_all, drop-drop, map-append, take-append-drop, append_assoc}
use Rattle.std.proofs.Math.Seq.{take-add}
use Rattle.tape_blocks.specs.Block.{Portion}
use Rattle.tape_core.specs.{Crash.AddsOnly, Crash.Crashes, declared.sink.PartSink.Ghosts}
use Rattle.tape_core.proofs.Crashes.{only_then}
use Rattle.tape_run.specs.{Headline.reels_in, Made.HasMade, Made.IsMade, SessionState.SessionState}
use Rattle.tape_run.specs.{Runs.Runs, Crash.IsOf, Crash.StoodAt, Crash.LastAlone, Crash.is_saved}
use Rattle.tape_run.specs.{Seen.seen, Seen.IsKept, declared.script.Step.Step}
use Rattle.tape_run.specs.declared.script.Step.TheVariants.{Reel, Save, Restart}
use Rattle.tape_run.proofs.{Crashes.stood_here, Made.made_more, Made.all_made}

-- The first n steps succeeded, in a session whose sink contained these parts before: the current
-- contents of its sink, the effects of the steps, the states that a crash leaves, and whether these
-- are only the last checkpoint.
pub record HasCome {S : Type 0} (g : Ghosts S) (which : List Bool) (old : SessionState S)
    (held : List Portion) (steps : List Step) (readers : List (Option (List ℕ))) (n : ℕ)
    (new : SessionState S) (unread others : List (Option (List ℕ))) : Type 0 where
  pub now : List Portion
  pub has : g.holds new.sink now
  pub kept : IsKept (seen g new now)
  pub made : HasMade n which (seen g old held) steps readers unread (seen g new now)
      (drop n steps) others
  pub adds : (behind : List (Option (List ℕ)))
      → AddsOnly (StoodAt (seen g old held) steps readers (unread ++ behind)) (g.crashes old.sink)
      (g.crashes new.sink)
  pub saved : Bool
  pub same : is_saved false steps ≡ is_saved saved (drop n steps)
  pub brings : saved ≡ true → LastAlone (g.crashes new.sink) (seen g new now)

-- the states that a crash may leave after the next step, in addition to the earlier ones
pub adds_more : {S : Type 0} {g : Ghosts S} {which : List Bool} {old mid : SessionState S}
    {held : List Portion} {steps : List Step} {readers unread others : List (Option (List ℕ))}
    {n : ℕ} {new : Crashes}
    (come : HasCome g which old held steps readers n mid unread others)
    → AddsOnly (IsOf (seen g mid come.now)) (g.crashes mid.sink) new
    → (behind all : List (Option (List ℕ))) → unread ++ behind ≡ all
    → AddsOnly (StoodAt (seen g old held) steps readers all) (g.crashes old.sink) new
adds_more {g = g} {old = old} {held = held} {steps = steps} {readers = readers} {new = new} come
    adds behind all whole =
    subst (λ u. AddsOnly (StoodAt (seen g old held) steps readers u) (g.crashes old.sink) new) whole
    (only_then _ _ _ _ _ (λ back there h. come.made.stood behind back there
    (stood_here _ _ _ behind back there h)) (come.adds behind) adds)

-- the next step succeeded
pub one_more : {S : Type 0} {g : Ghosts S} {which one : List Bool} {old mid new : SessionState S}
    {held : List Portion} {readers unread others then last : List (Option (List ℕ))} {step : Step}
    (steps : List Step) (n : ℕ)
    (come : HasCome g which old held steps readers n mid unread others)
    → drop n steps ≡ step ∷ drop (n + 1) steps → (now : List Portion) → g.holds new.sink now
    → IsKept (seen g new now)
    → IsMade one step others then last (g.crashes mid.sink) (g.crashes new.sink)
    (seen g mid come.now) (seen g new now)
    → AddsOnly (IsOf (seen g mid come.now)) (g.crashes mid.sink) (g.crashes new.sink)
    → HasCome g (which ++ one) old held steps readers (n + 1) new (unread ++ then) last
one_more {unread = unread} {then = then} steps n come here now has kept step adds =
    let rest = drop (n + 1) steps in
    let (still, goes, brings) = step.stays come.saved come.brings in
    record {
      now = now;
      has = has;
      kept = kept;
      made = made_more _ _ _ _ _ _ _ _ _ _ _ _ _ _ _ here come.made (step.makes rest);
      adds = λ behind. adds_more come adds (then ++ behind) _
          (sym (append_assoc unread then behind));
      saved = still;
      same = come.same ∙ ap (is_saved come.saved) here ∙ goes rest;
      brings = brings;
    }

-- the unread bytes of all readers, from those of the first one and the others
pub all_unread : {R : Type 0} (remaining : R → Option (List ℕ)) (used : ℕ) (reels : List R)
    → map remaining (take used reels) ++ map remaining (drop used reels) ≡ map remaining reels
all_unread remaining used reels = sym (map-append remaining (take used reels) (drop used reels))
    ∙ ap (map remaining) (take-append-drop used reels)

-- the same, in other terms
pub now_unread : {S : Type 0} {g : Ghosts S} {which : List Bool} {old new : SessionState S}
    {held : List Portion} {steps : List Step} {readers unread others : List (Option (List ℕ))}
    {n : ℕ} (is : List (Option (List ℕ))) → is ≡ unread
    → HasCome g which old held steps readers n new unread others
    → HasCome g which old held steps readers n new is others
now_unread {g = g} {which = which} {old = old} {new = new} {held = held} {steps = steps}
    {readers = readers} {others = others} {n = n} is e come =
    subst (λ u. HasCome g which old held steps readers n new u others) (sym e) come

-- the states that a crash leaves so far, for readers with these unread bytes
pub adds_so_far : {S : Type 0} {g : Ghosts S} {which : List Bool} {old new : SessionState S}
    {held : List Portion} {steps : List Step} {readers others : List (Option (List ℕ))} {n : ℕ}
    {R : Type 0} (remaining : R → Option (List ℕ)) (used : ℕ) (reels : List R)
    → HasCome g which old held steps readers n new (map remaining (take used reels)) others
    → AddsOnly (StoodAt (seen g old held) steps readers (map remaining reels)) (g.crashes old.sink)
    (g.crashes new.sink)
adds_so_far {g = g} {old = old} {new = new} {held = held} {steps = steps} {readers = readers}
    remaining used reels come =
    subst (λ u. AddsOnly (StoodAt (seen g old held) steps readers u) (g.crashes old.sink)
    (g.crashes new.sink)) (all_unread remaining used reels)
    (come.adds (map remaining (drop used reels)))

-- no step is left
pub came_to_end : {S : Type 0} {g : Ghosts S} {which : List Bool} {old new : SessionState S}
    {held : List Portion} {readers others : List (Option (List ℕ))} {R : Type 0}
    (steps : List Step) (n : ℕ) (remaining : R → Option (List ℕ)) (used : ℕ) (reels : List R)
    (come : HasCome g which old held steps readers n new (map remaining (take used reels)) others)
    → length steps ≤ n → Runs which (seen g old held) steps readers (map remaining reels)
    (seen g new come.now) × (is_saved false steps ≡ true
    → LastAlone (g.crashes new.sink) (seen g new come.now))
came_to_end {g = g} {which = which} {old = old} {new = new} {held = held} {readers = readers} steps
    n remaining used reels come past = (
      subst (λ u. Runs which (seen g old held) steps readers u (seen g new come.now))
          (all_unread remaining used reels)
          (all_made _ _ _ _ steps n _ _ _ (map remaining (drop used reels)) past come.made),
      λ is. come.brings (sym (come.same ∙ ap (is_saved come.saved) (drop_all n steps past)) ∙ is),
    )

-- ---- readers that were not used

reels_then : (steps more : List Step) → reels_in (steps ++ more) ≡ reels_in steps + reels_in more
reels_then [] more = omega arith
reels_then (Reel ∷ steps) more = omega (arith, reels_then steps more)
reels_then (Save ∷ steps) more = reels_then steps more
reels_then (Restart n ∷ steps) more = reels_then steps more

-- the number of readers used after one more step
pub taken_then : (steps : List Step) (n : ℕ) (step : Step)
    → drop n steps ≡ step ∷ drop (n + 1) steps → (used : ℕ) → used ≡ reels_in (take n steps)
    → used + reels_in (step ∷ []) ≡ reels_in (take (n + 1) steps)
taken_then steps n step here used is =
    ap (λ m. m + reels_in (step ∷ [])) is ∙ sym (reels_then (take n steps) (step ∷ []))
    ∙ ap reels_in (sym (take-add n 1 steps ∙ ap (λ rest. take n steps ++ take 1 rest) here))

-- the readers after those used before and the next one
pub stays_behind : {R : Type 0} (used more : ℕ) (old mid new : List R)
    → drop used mid ≡ drop used old → drop (used + more) new ≡ drop (used + more) mid
    → drop (used + more) new ≡ drop (used + more) old
stays_behind used more old mid new before now =
    now ∙ (sym (drop-drop more used mid) ∙ ap (drop more) before ∙ drop-drop more used old)
