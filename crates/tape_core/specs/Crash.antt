-- The contents that may remain after a crash.
use Rattle.std.specs.Prelude.{◌≡◌, ◌⊎◌, ℕ, ◌≤◌, List}
use Rattle.tape_blocks.specs.Block.{Portion}
use Rattle.tape_core.specs.Point.{Point}

-- the contents that may remain after a crash: a checkpoint, and parts
abbrev pub Returns : Type 1
Returns = Point → List Portion → Type 0

-- The effect of crashes on a sink: the contents that may remain after a crash now, and whether some
-- contents always remain; the current moment, a number that never decreases; and the same for a
-- crash now or at any moment since a given one, during a call or between two calls.
pub record Crashes : Type 1 where
  pub returns : Returns
  pub survives : Type 0
  pub moment : ℕ
  pub returned : ℕ → Returns
  pub survived : ℕ → Type 0

-- nothing remains
abbrev pub lost : Crashes
lost = record {
  returns = λ back there. ⊥;
  survives = ⊥;
  moment = 0;
  returned = λ t back there. ⊥;
  survived = λ t. ⊥;
}

-- the given checkpoint with the given parts
abbrev pub IsThis : Point → List Portion → Returns
IsThis point parts back there = (back ≡ point) × (there ≡ parts)

-- only the given checkpoint with the given parts may remain
abbrev pub OnlyThis : Point → List Portion → Returns → Type 0
OnlyThis point parts new = (back : Point) (there : List Portion)
    → new back there → IsThis point parts back there

-- only the given checkpoint with the given parts may remain, after a crash now or at any later
-- moment
abbrev pub ThisAlone : Point → List Portion → Crashes → Type 0
ThisAlone point parts now =
    OnlyThis point parts now.returns × OnlyThis point parts (now.returned now.moment)

-- Only the contents `these` may be added to those that may remain after a crash now or at any
-- moment since `old`; and if some contents remain after every crash at `old`, they do now, and did
-- at each moment since.
pub record AddsOnly (these : Returns) (old new : Crashes) : Type 0 where
  pub now : (back : Point) (there : List Portion) → new.returns back there
      → old.returns back there ⊎ these back there
  pub later : old.moment ≤ new.moment
  pub since : (t : ℕ) (back : Point) (there : List Portion) → t ≤ old.moment
      → new.returned t back there → old.returned t back there ⊎ these back there
  pub survives : old.survives → new.survives
  pub survived : (t : ℕ) → t ≤ old.moment → old.survived t → new.survived t

-- nothing is added to the contents that may remain after a crash now or at any moment since `old`;
-- and if some contents remain after every crash at `old`, they do now, and did at each moment since
abbrev pub AddsNothing : Crashes → Crashes → Type 0
AddsNothing old new = AddsOnly (λ back there. ⊥) old new
