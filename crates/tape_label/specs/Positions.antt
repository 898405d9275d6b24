-- The contents of a label by position. Positions count from 1, and a range includes both ends.
use Rattle.std.specs.Prelude.{◌≡◌, ℕ, ◌-◌, ◌^◌, ◌<◌, ◌≤◌, List, slice_range}
use Rattle.tape_label.specs.Digits.{digits}

-- the characters at the positions `first` to `last`
abbrev pub positions : List ℕ → ℕ → ℕ → List ℕ
positions label first last = slice_range label (first - 1) last

-- The positions contain the number n in decimal with leading zeros, and n is at least `least`.
pub record HasNumber (label : List ℕ) (first last least n : ℕ) : Type 0 where
  pub spelled : positions label first last ≡ digits (last - (first - 1)) n
  pub at_least : least ≤ n
  pub fits : n < 10 ^ (last - (first - 1))
