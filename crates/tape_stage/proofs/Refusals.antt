-- The state of a disk after opening a stage was refused.
use Rattle.std.proofs.Common.{◌≡◌, ℕ, ◌+◌, ◌≤◌, List, take, length, Some, sym, ap, ◌∙◌, subst}
use Rattle.std.proofs.{Common.arith, lemmas.List.take-take, lemmas.List.length-take-le}
use Rattle.tape_blocks.specs.Block.{Portion}
use Rattle.tape_core.specs.Point.{Point}
use Rattle.tape_stage.specs.{Body.Slot, Disk.CutShort, Found.IsFound, Moments.Untouched}
use Rattle.tape_stage.specs.{Staged.Staged, Staged.KeepsStaged, declared.disk.Disk.Ghosts}
use Rattle.tape_stage.specs.declared.stage.Found.{Found}
use Rattle.tape_stage.proofs.{Tears.best_of, Passing.weaken, Passing.follow}

module _ {D : Type 0} (g : Ghosts D) where
  -- one call after another
  pub untouched_then : (a b c : D) → Untouched g a b → Untouched g b c → Untouched g a c
  untouched_then a b c first second = record {
    read = second.read ∙ first.read;
    crash = follow g a b c (g.may_leave a) first.crash
        (weaken g b c (g.may_leave b) (g.may_leave a) first.crash.now second.crash);
  }

-- a cut that was completed
pub cut_whole : (n : ℕ) (old new : List ℕ) → n ≤ length old → new ≡ take n old → CutShort n old new
cut_whole n old new le is =
    let long : length new ≡ n = ap length is ∙ length-take-le n old le in
    record {
      no_shorter = omega (arith, long);
      no_longer = omega (arith, long);
      front = ap (take n) is ∙ take-take n n old (omega arith);
    }

-- a cut that was not done
pub uncut : (n : ℕ) (old new : List ℕ) → new ≡ old → CutShort n old new
uncut n old new same = record {
  no_shorter = omega (arith, ap length same);
  no_longer = omega (arith, ap length same);
  front = ap (take n) same;
}

pub same_keeps : (old new : List ℕ) → new ≡ old → KeepsStaged old new
same_keeps old new same g point parts staged = uncut (256 + point.staged) _ _ same

-- a cut after the staged data that were found preserves them
pub cut_keeps : (found : Found) (old new : List ℕ) → IsFound found old
    → CutShort (256 + found.point.staged) old new → KeepsStaged old new
cut_keeps found old new is cut g point parts staged =
    let named = best_of found.in_second found.generation found.point old is.slot is.other in
    let both : Some (found.generation, found.point) ≡ Some (g, point) = sym named ∙ staged.slot in
    let e : (found.generation, found.point) ≡ (g, point) = cc in
    let weight : found.point.staged ≡ point.staged = ap (λ (p : Slot). p.1.staged) e in
    subst (λ (n : ℕ). CutShort (256 + n) old new) weight cut

-- the cut at an opening preserves the staged data
pub opened_keeps : (g : ℕ) (point : Point) (parts : List Portion) (old new : List ℕ)
    → Staged old g point parts → new ≡ take (256 + point.staged) old → KeepsStaged old new
opened_keeps g point parts old new is cut h next more staged =
    let both : Some (g, point) ≡ Some (h, next) = sym is.slot ∙ staged.slot in
    let e : (g, point) ≡ (h, next) = cc in
    let weight : point.staged ≡ next.staged = ap (λ (p : Slot). p.1.staged) e in
    subst (λ (n : ℕ). CutShort n old new) (ap (λ (n : ℕ). 256 + n) weight)
    (cut_whole (256 + point.staged) old _ is.parts_are.long cut)
