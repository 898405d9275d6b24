-- Consecutive calls of a sink, and the contents that they add to those that may remain after a
-- crash.
use Rattle.std.proofs.Common.{◌⊎◌, List, inl, inr, arith}
use Rattle.tape_blocks.specs.Block.{Portion}
use Rattle.tape_core.specs.{Crash.AddsOnly, Crash.Crashes, Crash.Returns, Point.Point}

pub only_same : (these : Returns) (c : Crashes) → AddsOnly these c c
only_same these c = record {
  now = λ back there h. inl h;
  later = omega arith;
  since = λ t back there le h. inl h;
  survives = λ h. h;
  survived = λ t le h. h;
}

either : {A B C D : Type 0} → (A → C ⊎ D) → (B → D) → A ⊎ B → C ⊎ D
either f g (inl a) = f a
either f g (inr b) = inr (g b)

-- a call that adds some contents, and then a call that adds a subset of them
pub only_then : (these those : Returns) (a b c : Crashes)
    → ((back : Point) (there : List Portion) → those back there → these back there)
    → AddsOnly these a b → AddsOnly those b c → AddsOnly these a c
only_then these those a b c f one two = record {
  now = λ back there h. either (one.now back there) (f back there) (two.now back there h);
  later = omega (arith, one.later, two.later);
  since = λ t back there le h. either (one.since t back there le) (f back there)
      (two.since t back there (omega (arith, le, one.later)) h);
  survives = λ h. two.survives (one.survives h);
  survived = λ t le h. two.survived t (omega (arith, le, one.later)) (one.survived t le h);
}

-- contents added are among any larger collection
pub only_among : (these those : Returns) (a b : Crashes)
    → ((back : Point) (there : List Portion) → these back there → those back there)
    → AddsOnly these a b → AddsOnly those a b
only_among these those a b f one = record {
  now = λ back there h. either (λ was. inl was) (f back there) (one.now back there h);
  later = one.later;
  since = λ t back there le h. either (λ was. inl was) (f back there)
      (one.since t back there le h);
  survives = one.survives;
  survived = one.survived;
}

-- an alternative to the impossible
pub or_nothing : {A : Type 0} → A ⊎ ⊥ → A
or_nothing (inl a) = a
or_nothing (inr none) = absurd none
