-- The order of positions.
use Rattle.std.proofs.Common.{◌≡◌, ◌≤◌, inl, inr, ℕ, sym, ap, subst, ◌∙◌, arith}
use Rattle.tape_set.specs.declared.position.Position.{Position}
use Rattle.tape_set.specs.declared.position.Position.TheVariants.{Awaits, Finished}
use Rattle.tape_set.specs.Position.{sect_of, block_of, IsBefore, IsUpTo}

before_trans : (p q r : Position) → IsBefore p q → IsBefore q r → IsBefore p r
before_trans (Awaits s b j) (Awaits t c k) (Awaits u d l) (inl x) (inl y) =
    inl (omega (arith, x, y))
before_trans (Awaits s b j) (Awaits t c k) (Awaits u d l) (inl x) (inr (e, y)) =
    inl (omega (arith, x, e))
before_trans (Awaits s b j) (Awaits t c k) (Awaits u d l) (inr (e, x)) (inl y) =
    inl (omega (arith, e, y))
before_trans (Awaits s b j) (Awaits t c k) (Awaits u d l) (inr (e, inl x)) (inr (f, inl y)) =
    inr (e ∙ f, inl (omega (arith, x, y)))
before_trans (Awaits s b j) (Awaits t c k) (Awaits u d l) (inr (e, inl x)) (inr (f, inr (g, y))) =
    inr (e ∙ f, inl (omega (arith, x, g)))
before_trans (Awaits s b j) (Awaits t c k) (Awaits u d l) (inr (e, inr (g, x))) (inr (f, inl y)) =
    inr (e ∙ f, inl (omega (arith, g, y)))
before_trans (Awaits s b j) (Awaits t c k) (Awaits u d l) (inr (e, inr (g, x)))
    (inr (f, inr (h, y))) = inr (e ∙ f, inr (g ∙ h, omega (arith, x, y)))
before_trans (Awaits s b j) (Awaits t c k) Finished h g = tt
before_trans (Awaits s b j) Finished r h g = absurd g
before_trans Finished q r h g = absurd h

before_never : (p : Position) → IsBefore p p → ⊥
before_never (Awaits s b j) (inl x) = absurd (omega (arith, x))
before_never (Awaits s b j) (inr (e, inl x)) = absurd (omega (arith, x))
before_never (Awaits s b j) (inr (e, inr (f, x))) = absurd (omega (arith, x))
before_never Finished h = h

pub up_trans : (p q r : Position) → IsUpTo p q → IsUpTo q r → IsUpTo p r
up_trans p q r (inl x) (inl y) = inl (before_trans p q r x y)
up_trans p q r (inl x) (inr e) = inl (subst (λ (s : Position). IsBefore p s) e x)
up_trans p q r (inr e) h = subst (λ (s : Position). IsUpTo s r) (sym e) h

pub up_both : (p q : Position) → IsUpTo p q → IsUpTo q p → p ≡ q
up_both p q (inr e) h = e
up_both p q (inl x) (inr e) = sym e
up_both p q (inl x) (inl y) = absurd (before_never p (before_trans p q p x y))

pub up_sect : (s b j t c k : ℕ) → IsUpTo (Awaits s b j) (Awaits t c k) → s ≤ t
up_sect s b j t c k (inl (inl x)) = omega (arith, x)
up_sect s b j t c k (inl (inr (e, x))) = omega (arith, e)
up_sect s b j t c k (inr e) = omega (arith, ap sect_of e)

pub up_block : (s b j c k : ℕ) → IsUpTo (Awaits s b j) (Awaits s c k) → b ≤ c
up_block s b j c k (inl (inl x)) = absurd (omega (arith, x))
up_block s b j c k (inl (inr (e, inl x))) = omega (arith, x)
up_block s b j c k (inl (inr (e, inr (f, x)))) = omega (arith, f)
up_block s b j c k (inr e) = omega (arith, ap block_of e)
