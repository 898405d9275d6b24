-- How the calls of a disk change the bytes that reads return, and the contents that a crash may
-- leave.
use Rattle.std.specs.Prelude.{◌≡◌, ◌⊎◌, ℕ, zero, suc, ◌+◌, ◌≤◌, max, min, List, ◌++◌, length, take}
use Rattle.std.specs.Prelude.{drop, Option, Some, None}

-- `new` is `old` with `bytes` written at offset `place`
abbrev pub Holds : List ℕ → ℕ → List ℕ → List ℕ → Type 0
Holds old place bytes new = new ≡ take place old ++ bytes ++ drop (place + length bytes) old

-- after a crash during a write of n bytes: any bytes in the range and past the old end, all other
-- bytes unchanged
pub record Torn (place n : ℕ) (old new : List ℕ) : Type 0 where
  pub before : take place new ≡ take place old
  pub after : drop (place + n) new ≡ drop (place + n) old
  pub no_shorter : length old ≤ length new
  pub no_longer : length new ≤ max (length old) (place + n)

-- after a crash during a cut: the old bytes up to the cut, followed by any bytes or none, no longer
-- than before
pub record CutShort (n : ℕ) (old new : List ℕ) : Type 0 where
  pub no_shorter : min n (length old) ≤ length new
  pub no_longer : length new ≤ length old
  pub front : take n new ≡ take n old

-- each result of a crash on the new disk is a result on the old disk, changed by a step
abbrev pub Follows : (List ℕ → List ℕ → Type 0) → (List ℕ → Type 0) → (List ℕ → Type 0) → Type 0
Follows step old new = (c : List ℕ) → new c → (d : List ℕ) × old d × step d c

-- each result of a crash on the old disk, changed by a step, is a result on the new disk
abbrev pub Allows : (List ℕ → List ℕ → Type 0) → (List ℕ → Type 0) → (List ℕ → Type 0) → Type 0
Allows step old new = (d c : List ℕ) → old d → step d c → new c

-- the new disk has no further results of a crash
abbrev pub NoMore : (List ℕ → Type 0) → (List ℕ → Type 0) → Type 0
NoMore old new = (c : List ℕ) → new c → old c

-- a crash leaves only the bytes `file`
abbrev pub Only : List ℕ → (List ℕ → Type 0) → Type 0
Only file outcomes = (c : List ℕ) → outcomes c → c ≡ file

-- Time passes: a crash since t might have left contents that were possible before, or contents that
-- it may leave now.
pub record Elapses (before now : ℕ) (past since : ℕ → List ℕ → Type 0)
    (may_leave : List ℕ → Type 0) : Type 0 where
  pub later : before ≤ now
  pub nothing_else : (t : ℕ) (c : List ℕ) → t ≤ before → since t c → past t c ⊎ may_leave c
  pub keeps : (t : ℕ) (c : List ℕ) → t ≤ before → past t c → since t c

-- time passes from one disk to the next
abbrev pub IsLater : {D : Type 0} → (D → ℕ) → (D → ℕ → List ℕ → Type 0) → (D → List ℕ → Type 0) → D
    → D → Type 0
IsLater moment left_since may_leave old new = Elapses (moment old) (moment new) (left_since old)
    (left_since new) (may_leave new)

-- each fact follows from the other
pub record SameFact (old new : Type 0) : Type 0 where
  pub onward : old → new
  pub back : new → old

-- A call was made, which succeeded or not: if the number of calls that may succeed is limited, it
-- was one of them, or it failed because no such call is left.
abbrev pub CountsDown : Type 0 → Option ℕ → Option ℕ → Type 0
CountsDown ok None after = after ≡ None
CountsDown ok (Some zero) after = (ok → ⊥) × (after ≡ Some zero)
CountsDown ok (Some (suc n)) after = after ≡ Some n
