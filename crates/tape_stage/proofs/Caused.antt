-- A wrapper fails no more often than its disk.
use Rattle.std.proofs.Common.{ℕ, ◌≡◌, ◌+◌, ◌≤◌, Result, Ok, Err, OnOk, inl, inr, arith, OnErr}
use Rattle.tape_core.specs.Weight.{Rose}

-- after a call of the disk, whatever its result
pub caused_on : {A B : Type 0} (r : Result A B) (n old new : ℕ) → n ≤ 18446744073709551615
    → n ≤ old → OnErr r (Rose old new) → OnOk r (new ≡ old) → n ≤ new
caused_on (Ok x) n old new small le cause calm = omega (arith, le, calm)
caused_on (Err e) n old new small le (inl more) calm = omega (arith, le, more)
caused_on (Err e) n old new small le (inr top) calm = omega (arith, small, top)

-- after a call in which the disk failed, which was counted
pub caused_more : (n m old new : ℕ) → m ≤ n + 1 → m ≤ 18446744073709551615 → n ≤ old
    → Rose old new → m ≤ new
caused_more n m old new once small le (inl more) = omega (arith, once, le, more)
caused_more n m old new once small le (inr top) = omega (arith, small, top)
