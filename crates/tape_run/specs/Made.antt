-- Steps of a run that succeeded.
use Rattle.std.specs.Prelude.{◌≡◌, ℕ, ◌+◌, Bool, true, List, ◌∷◌, ◌++◌, Option, take, drop, length}
use Rattle.tape_blocks.specs.Block.{Portion}
use Rattle.tape_core.specs.{Crash.Crashes, Point.Point}
use Rattle.tape_run.specs.declared.{fault.RunFault.RunFault, script.Step.Step}
use Rattle.tape_run.specs.Crash.{StoodAt, LastAlone, is_saved}
use Rattle.tape_run.specs.{Given.written, Runs.Runs, Runs.RunsUpTo, Seen.Seen}

-- The first `made` steps succeeded, with the first of the readers: `which` says which of these
-- failed, and `unread` which bytes they have left. All steps lead from the start to where the
-- remaining steps lead from here. If the remaining steps stop, all steps stop, `made` steps later.
-- Each state of the session between the remaining steps is one between all steps.
pub record HasMade (made : ℕ) (which : List Bool) (old : Seen) (steps : List Step)
    (readers unread : List (Option (List ℕ))) (new : Seen) (left : List Step)
    (others : List (Option (List ℕ))) : Type 0 where
  pub runs : (more : List Bool) (behind : List (Option (List ℕ))) (end : Seen)
      → Runs more new left others behind end
      → Runs (which ++ more) old steps readers (unread ++ behind) end
  pub stops : (more : List Bool) (behind : List (Option (List ℕ))) (n : ℕ) (fault : RunFault)
      (end : Seen) → RunsUpTo more new left others behind n fault end
      → RunsUpTo (which ++ more) old steps readers (unread ++ behind) (made + n) fault end
  pub stood : (behind : List (Option (List ℕ))) (back : Point) (there : List Portion)
      → StoodAt new left others behind back there
      → StoodAt old steps readers (unread ++ behind) back there

-- A step succeeded, with the first of the readers if it is a reel. The steps from before it lead to
-- where the steps after it lead. If a crash left only the last checkpoint whenever only reels
-- followed the last save, this is still true after the step.
pub record IsMade (which : List Bool) (step : Step) (readers unread others : List (Option (List ℕ)))
    (was now : Crashes) (old new : Seen) : Type 0 where
  pub makes : (rest : List Step) → HasMade 1 which old (step ∷ rest) readers unread new rest others
  pub stays : (saved : Bool) → (saved ≡ true → LastAlone was old) → (still : Bool)
      × ((rest : List Step) → is_saved saved (step ∷ rest) ≡ is_saved still rest)
      × (still ≡ true → LastAlone now new)

-- These values were written over the list, from this index on, as far as the list reaches;
-- `now_used` is the next index.
abbrev pub WritesFrom : ℕ → List Bool → List Bool → List Bool → ℕ → Type 0
WritesFrom used which old new now_used =
    (new ≡ take used old ++ written which (drop used old)) × (now_used ≡ used + length which)
