-- Consecutive calls of a disk.
use Rattle.std.proofs.Common.{inl, inr, ⊎_elim, ℕ, List, arith, refl, ◌∙◌}
use Rattle.tape_stage.specs.{declared.disk.Disk.Ghosts, Disk.IsLater, Moments.Passes}
use Rattle.tape_stage.specs.OnlyReading.{OnlyReads}

module _ {D : Type 0} (g : Ghosts D) where
  pub weaken : (old new : D) (P Q : List ℕ → Type 0) → ((c : List ℕ) → P c → Q c)
      → Passes g old new P → Passes g old new Q
  weaken old new P Q also passes = record {
    later = passes.later;
    before = λ t c le was. ⊎_elim (λ here. inl here) (λ p. inr (also c p))
        (passes.before t c le was);
    now = λ c left. also c (passes.now c left);
  }

  pub follow : (a b c : D) (P : List ℕ → Type 0) → Passes g a b P → Passes g b c P → Passes g a c P
  follow a b c P first second = record {
    later = omega (arith, first.later, second.later);
    before = λ t x le was. ⊎_elim (λ here. first.before t x le here) (λ p. inr p)
        (second.before t x (omega (arith, first.later)) was);
    now = second.now;
  }

  pub stands : (a b : D) (P : List ℕ → Type 0) → IsLater g.moment g.left_since g.may_leave a b
      → ((c : List ℕ) → g.may_leave b c → P c) → Passes g a b P
  stands a b P time now = record {
    later = time.later;
    before = λ t x le was. ⊎_elim (λ here. inl here) (λ left. inr (now x left))
        (time.nothing_else t x le was);
    now = now;
  }

  pub nothing : (a : D) (P : List ℕ → Type 0) → ((c : List ℕ) → g.may_leave a c → P c)
      → Passes g a a P
  nothing a P now = record { later = omega arith; before = λ t x le was. inl was; now = now }

  pub only_reads_self : (a : D) → OnlyReads g a a
  only_reads_self a = record {
    same = λ honest. refl;
    same_length = refl;
    any_moment = λ honest. nothing a (g.may_leave a) (λ c left. left);
    back = λ honest. honest;
  }

  pub reads_then : (a b c : D) → (g.is_honest a → g.is_honest b) → OnlyReads g a b
      → OnlyReads g b c → OnlyReads g a c
  reads_then a b c honest first second = record {
    same = λ h. second.same (honest h) ∙ first.same h;
    same_length = second.same_length ∙ first.same_length;
    any_moment = λ h. follow a b c _ (first.any_moment h)
        (weaken b c _ _ (first.any_moment h).now (second.any_moment (honest h)));
    back = λ h. first.back (second.back h);
  }
