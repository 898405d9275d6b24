-- The contents of an image store in memory.
use Rattle.std.specs.Prelude.{◌≡◌, ◌≤◌, ℕ, ◌+◌, List, length, Bool, true, false}

-- the number of devices lent, 0 or 1
abbrev pub lent_count : Bool → ℕ
lent_count true = 1
lent_count false = 0

-- exactly the given images are stored, and there is room for those that may follow, including the
-- one whose device is lent
abbrev pub HoldsImages : List (List ℕ) → ℕ → ℕ → Bool → List (List ℕ) → Type 0
HoldsImages kept room left lent images =
    (kept ≡ images) × (length kept + left + lent_count lent ≤ room)
