-- Steps of a run that succeeded, one after another.
use Rattle.std.proofs.Common.{◌≡◌, ℕ, zero, suc, ◌+◌, Bool, true, false, List, [], ◌∷◌, drop}
use Rattle.std.proofs.Common.{Option, Some, None, ◌≤◌, length, take, IfSome, refl, sym, ap, ◌∙◌}
use Rattle.std.proofs.Common.{subst, ◌<◌, arith, append-nil, ◌++◌, slice_set, slice_get}
use Rattle.std.proofs.lemmas.List.{append_assoc, take-append-drop, drop_all}
use Rattle.tape_core.specs.{Crash.AddsNothing, Crash.Crashes, Weight.IsFront}
use Rattle.tape_run.specs.{Crash.LastAlone, Given.written, Headline.LosesParts, Seen.Seen}
use Rattle.tape_run.specs.{Made.HasMade, Made.IsMade, Made.WritesFrom, declared.script.Step.Step}
use Rattle.tape_run.specs.{Runs.Runs, Runs.RunsUpTo, Runs.Fails, declared.fault.RunFault.RunFault}
use Rattle.tape_run.specs.declared.script.Step.TheVariants.{Reel, Save, Restart}
use Rattle.tape_run.specs.Steps.{Reeled, Saved, WentBack}
use Rattle.tape_run.proofs.Lasting.{alone_still}

-- ---- one step

-- one step later
later : (which : List Bool) (old : Seen) (steps : List Step)
    (readers left : List (Option (List ℕ)))
    (n : ℕ) (fault : RunFault) (end : Seen)
    → RunsUpTo which old steps readers left (suc n) fault end
    → RunsUpTo which old steps readers left (1 + n) fault end
later which old steps readers left n fault end h =
    let same : suc n ≡ 1 + n = omega arith in
    subst (λ k. RunsUpTo which old steps readers left k fault end) same h

reel_makes : (old mid : Seen) (o l : Option (List ℕ)) (failed : Bool)
    → IfSome o (λ bytes. Reeled bytes l failed old mid) → (readers : List (Option (List ℕ)))
    (steps : List Step)
    → HasMade 1 (failed ∷ []) old (Reel ∷ steps) (o ∷ readers) (l ∷ []) mid steps readers
reel_makes old mid None l failed r readers steps = grind (arith, later)
reel_makes old mid (Some bytes) l failed r readers steps = grind (arith, later)

save_makes : (old mid : Seen) → Saved old mid → (readers : List (Option (List ℕ)))
    (steps : List Step) → HasMade 1 [] old (Save ∷ steps) readers [] mid steps readers
save_makes old mid v readers steps = grind (arith, later)

restart_makes : (old mid : Seen) (k : ℕ) → WentBack k old mid → (readers : List (Option (List ℕ)))
    (steps : List Step) → HasMade 1 [] old (Restart k ∷ steps) readers [] mid steps readers
restart_makes old mid k w readers steps = grind (arith, later)

-- a reel was read: the checkpoints are unchanged, and no part was removed
pub reel_made : (old mid : Seen) (o l : Option (List ℕ)) (failed : Bool)
    → IfSome o (λ bytes. Reeled bytes l failed old mid) → (readers : List (Option (List ℕ)))
    (was now : Crashes) → mid.notes ≡ old.notes → IsFront old.parts mid.parts → AddsNothing was now
    → IsMade (failed ∷ []) Reel (o ∷ readers) (l ∷ []) readers was now old mid
reel_made old mid o l failed r readers was now notes front none = record {
  makes = reel_makes old mid o l failed r readers;
  stays = λ saved before. (
    saved,
    λ rest. refl,
    λ is. alone_still was now old mid notes front none (before is),
  );
}

-- a checkpoint was made of the session's position, and a crash leaves only that
pub save_made : (old mid : Seen) → Saved old mid → (readers : List (Option (List ℕ)))
    (was now : Crashes) → LastAlone now mid → IsMade [] Save readers [] readers was now old mid
save_made old mid v readers was now last = record {
  makes = save_makes old mid v readers;
  stays = λ saved before. (true, λ rest. refl, λ is. last);
}

-- the session rolled back to a checkpoint
pub restart_made : (old mid : Seen) (k : ℕ) → WentBack k old mid
    → (readers : List (Option (List ℕ))) (was now : Crashes)
    → IsMade [] (Restart k) readers [] readers was now old mid
restart_made old mid k w readers was now = record {
  makes = restart_makes old mid k w readers;
  stays = λ saved before. (false, λ rest. refl, λ is. absurd (cc));
}

-- ---- one after another

pub made_more : (made : ℕ) (which one : List Bool) (old mid new : Seen)
    (steps left rest : List Step) (step : Step)
    (readers unread others then last : List (Option (List ℕ)))
    → left ≡ step ∷ rest → HasMade made which old steps readers unread mid left others
    → HasMade 1 one mid (step ∷ rest) others then new rest last
    → HasMade (made + 1) (which ++ one) old steps readers (unread ++ then) new rest last
made_more made which one old mid new steps left rest step readers unread others then last e f g =
    grind (arith, append_assoc)

-- no step is left
pub all_made : (made : ℕ) (which : List Bool) (old end : Seen) (steps : List Step) (i : ℕ)
    (readers unread others behind : List (Option (List ℕ)))
    → length steps ≤ i → HasMade made which old steps readers unread end (drop i steps) others
    → Runs which old steps readers (unread ++ behind) end
all_made made which old end steps i readers unread others behind past h =
    subst (λ w. Runs w old steps readers (unread ++ behind) end) (append-nil which)
    (h.runs [] behind end (rw (drop_all i steps past) ((refl, refl))))

-- the next step failed
pub stops_here : (made : ℕ) (which : List Bool) (old mid new : Seen)
    (steps left rest : List Step) (step : Step)
    (readers unread others behind all : List (Option (List ℕ))) (fault : RunFault)
    → unread ++ behind ≡ all → left ≡ step ∷ rest
    → HasMade made which old steps readers unread mid left others → Fails step others fault mid new
    → RunsUpTo which old steps readers all made fault new
stops_here made which old mid new steps left rest step readers unread others behind all fault whole
    e h f =
    let none : made + 0 ≡ made = omega arith in
    subst (λ u. RunsUpTo which old steps readers u made fault new) whole
    (subst (λ k. RunsUpTo which old steps readers (unread ++ behind) k fault new) none
    (subst (λ w. RunsUpTo w old steps readers (unread ++ behind) (made + 0) fault new)
    (append-nil which)
    (h.stops [] behind 0 fault new
    (rw e (record { step = step; at = refl; mid = mid; runs = (refl, refl); fails = f })))))

-- ---- the results recorded for the readers

-- if nothing is written
pub writes_none : (used : ℕ) (row : List Bool) → WritesFrom used [] row row used
writes_none used row = (sym (take-append-drop used row), omega arith)

-- an entry is set if the list reaches that far
pub set_writes : (row : List Bool) (i : ℕ) (flag : Bool) → i < length row
    → slice_set row i flag ≡ take i row ++ written (flag ∷ []) (drop i row)
set_writes [] i flag less = absurd (omega (arith, less))
set_writes (x ∷ row) zero flag less = refl
set_writes (x ∷ row) (suc i) flag less =
    ap (λ r. x ∷ r) (set_writes row i flag (omega (arith, less)))

-- these values after those that were written before
written_more : (which more row : List Bool) → take (length which) (written which row)
    ++ written more (drop (length which) (written which row)) ≡ written (which ++ more) row
written_more [] more row = refl
written_more (v ∷ which) [] [] = refl
written_more (v ∷ which) (m ∷ more) [] = refl
written_more (v ∷ which) more (x ∷ row) = ap (λ r. v ∷ r) (written_more which more row)

-- a step writes its values after those of the steps before it
pub wrote : (which more start row new : List Bool) (used now_used : ℕ) → length which ≡ used
    → row ≡ written which start → WritesFrom used more row new now_used
    → new ≡ written (which ++ more) start
wrote which more start row new used now_used count e (is, n) =
    is ∙ ap (λ k. take k row ++ written more (drop k row)) (sym count)
    ∙ ap (λ r. take (length which) r ++ written more (drop (length which) r)) e
    ∙ written_more which more start

-- the next step
pub next_is : (steps : List Step) (i : ℕ) (step : Step) (rest : List Step)
    → drop i steps ≡ step ∷ rest → slice_get steps i ≡ Some step
next_is [] zero step rest e = absurd (cc)
next_is [] (suc i) step rest e = absurd (cc)
next_is (s ∷ steps) zero step rest e = cc
next_is (s ∷ steps) (suc i) step rest e = next_is steps i step rest e

-- a step that loses the contents of the sink is one of the steps
pub lost_here : (steps : List Step) (i : ℕ) (step : Step) (rest : List Step) (fault : RunFault)
    → drop i steps ≡ step ∷ rest → LosesParts (step ∷ []) 0 fault → LosesParts steps i fault
lost_here steps i step rest fault e ((note, is), device) =
    ((note, next_is steps i step rest e ∙ is), device)
