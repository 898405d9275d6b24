-- The merged tape is as long as the longest reading, and an item of it is bad only if it is bad in
-- all readings.
use Rattle.std.proofs.Common.{◌≡◌, ◌⊎◌, inl, inr, ℕ, zero, suc, ◌<◌, ◌≤◌, List, [], ◌∷◌, length}
use Rattle.std.proofs.Common.{take, Some, None, refl, ap, ◌∙◌, arith, length-take, slice_get}
use Rattle.std.proofs.Math.ListN.{set}
use Rattle.tape_image.specs.Tape.{TapeItem, bad}
use Rattle.tape_run.specs.Merging.{IsReadAs, IsReadFrom, AreReadFrom}
use Rattle.tape_run.specs.MergeLaws.{longest, AsLongAsLongest, AllBadAt, BadWhereAllBad}

-- ---- length

pub reads_length : (r t : List TapeItem) → IsReadFrom r t → length r ≤ length t
reads_length [] t h = omega arith
reads_length (x ∷ r) [] h = absurd h
reads_length (x ∷ r) (y ∷ t) h =
    let ih : length r ≤ length t = reads_length r t h.1 in
    omega arith

reads_take : (r t : List TapeItem) (n : ℕ) → IsReadFrom r t → length r ≤ n → IsReadFrom r (take n t)
reads_take [] t n h le = tt
reads_take (x ∷ r) [] n h le = absurd h
reads_take (x ∷ r) (y ∷ t) zero h le = absurd (omega arith)
reads_take (x ∷ r) (y ∷ t) (suc n) h le = (h.0, reads_take r t n h.1 (omega arith))

all_take : (rs : List (List TapeItem)) (t : List TapeItem) (n : ℕ) → AreReadFrom rs t
    → longest rs ≤ n → AreReadFrom rs (take n t)
all_take [] t n h le = tt
all_take (r ∷ rs) t n h le = (reads_take _ _ n h.0 (omega arith), all_take rs t n h.1 (omega arith))

all_within : (rs : List (List TapeItem)) (t : List TapeItem) → AreReadFrom rs t
    → longest rs ≤ length t
all_within [] t h = omega arith
all_within (r ∷ rs) t h =
    let one : length r ≤ length t = reads_length r t h.0 in
    let more : longest rs ≤ length t = all_within rs t h.1 in
    omega arith

pub as_long : AsLongAsLongest
as_long rs m is =
    let least : longest rs ≤ length m = all_within rs m is.all in
    let most : length m ≤ length (take (longest rs) m) =
    reads_length m (take (longest rs) m)
    (is.least (take (longest rs) m) (all_take rs m (longest rs) is.all (omega arith))) in
    omega (arith, length-take {A = TapeItem})

-- ---- bad items

bad_met : (x y : TapeItem) → IsReadAs x y → y ≡ bad → x ≡ bad
bad_met x y (inl e) is = e
bad_met x y (inr e) is = e ∙ is

bad_at : (r m : List TapeItem) (j : ℕ) → IsReadFrom r m → slice_get m j ≡ Some bad
    → (slice_get r j ≡ None) ⊎ (slice_get r j ≡ Some bad)
bad_at [] m j h is = inl refl
bad_at (x ∷ r) [] j h is = absurd h
bad_at (x ∷ r) (y ∷ m) zero h is = inr (ap Some (bad_met x y h.0 (cc is)))
bad_at (x ∷ r) (y ∷ m) (suc j) h is = bad_at r m j h.1 is

all_bad_at : (rs : List (List TapeItem)) (m : List TapeItem) (j : ℕ) → AreReadFrom rs m
    → slice_get m j ≡ Some bad → AllBadAt j rs
all_bad_at [] m j h is = tt
all_bad_at (r ∷ rs) m j h is = (bad_at r m j h.0 is, all_bad_at rs m j h.1 is)

reads_bad : (r m : List TapeItem) (j : ℕ) → IsReadFrom r m
    → (slice_get r j ≡ None) ⊎ (slice_get r j ≡ Some bad) → IsReadFrom r (set m j bad)
reads_bad [] m j h is = tt
reads_bad (x ∷ r) [] j h is = absurd h
reads_bad (x ∷ r) (y ∷ m) zero h (inl none) = absurd (cc none)
reads_bad (x ∷ r) (y ∷ m) zero h (inr some) = (inl (cc some), h.1)
reads_bad (x ∷ r) (y ∷ m) (suc j) h is = (h.0, reads_bad r m j h.1 is)

all_bad : (rs : List (List TapeItem)) (m : List TapeItem) (j : ℕ) → AreReadFrom rs m
    → AllBadAt j rs → AreReadFrom rs (set m j bad)
all_bad [] m j h is = tt
all_bad (r ∷ rs) m j h is = (reads_bad r m j h.0 is.0, all_bad rs m j h.1 is.1)

met_bad : (x : TapeItem) → IsReadAs x bad → x ≡ bad
met_bad x (inl e) = e
met_bad x (inr e) = e

is_bad : (m : List TapeItem) (j : ℕ) → j < length m → IsReadFrom m (set m j bad)
    → slice_get m j ≡ Some bad
is_bad [] j lt h = absurd (omega arith)
is_bad (x ∷ m) zero lt h = ap Some (met_bad x h.0)
is_bad (x ∷ m) (suc j) lt h = is_bad m j (omega arith) h.1

pub bad_where : BadWhereAllBad
bad_where rs m j is lt = (
  λ here. all_bad_at rs m j is.all here,
  λ all. is_bad m j lt (is.least (set m j bad) (all_bad rs m j is.all all)),
)
