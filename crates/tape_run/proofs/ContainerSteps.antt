-- One step of each walk through the first bytes of a file.
use Rattle.std.proofs.Common.{◌≡◌, ◌<◌, ◌-◌, ◌||◌, ◌∙◌, ℕ, zero, suc, arith, ap, sym, refl, Bool}
use Rattle.std.proofs.Common.{List, ◌∷◌, drop, nat_lt, slice_index, if◌then◌else◌, true, false}
use Rattle.std.proofs.Common.{◌%◌}
use Rattle.std.specs.Prelude.{Some, None}
use Rattle.byteorder.specs.Endian.{little_number}
use Rattle.tape_run.specs.Container.{walked_by, walked_from}
use Rattle.tape_run.specs.ContainerFrames.{whole_len}
use Rattle.tape_run.specs.ContainerRecords.{packs_from, is_header, after_header}

less_one : (n : ℕ) → suc n - 1 ≡ n
less_one n = omega arith

pub drop_next : (n x : ℕ) (xs : List ℕ) → 0 < n → drop n (x ∷ xs) ≡ drop (n - 1) xs
drop_next zero x xs h = elim h [ ]
drop_next (suc n) x xs h = ap (λ m. drop m xs) (sym (less_one n))

-- ---- items

pub walked_stop : (n : ℕ) (block : Bool) (xs : List ℕ) → whole_len xs ≡ None
    → walked_from n block xs ≡ (block, xs)
walked_stop zero block xs h = refl
walked_stop (suc n) block xs h = ap (λ o. walked_by o block xs (walked_from n)) h

pub walked_on : (n : ℕ) (block : Bool) (xs : List ℕ) (k : ℕ) → 0 < n → whole_len xs ≡ Some k
    → walked_from n block xs ≡ walked_from (n - 1) (block || nat_lt 4 k) (drop k xs)
walked_on zero block xs k l h = elim l [ ]
walked_on (suc n) block xs k l h = ap (λ o. walked_by o block xs (walked_from n)) h
    ∙ ap (λ m. walked_from m (block || nat_lt 4 k) (drop k xs)) (sym (less_one n))

-- ---- headers

abbrev packs_by : Bool → Bool → Bool → Bool
packs_by fits packed rest = if fits then packed || rest else false

pub packs_stop : (n before : ℕ) (xs : List ℕ) → is_header before xs ≡ false
    → packs_from n before xs ≡ false
packs_stop zero before xs h = refl
packs_stop (suc n) before xs h = ap (λ b. packs_by b (nat_lt 0 (slice_index xs 4 % 4))
    (packs_from n (little_number 2 xs) (after_header xs))) h

pub packs_found : (n before : ℕ) (xs : List ℕ) → 0 < n → is_header before xs ≡ true
    → nat_lt 0 (slice_index xs 4 % 4) ≡ true → packs_from n before xs ≡ true
packs_found zero before xs l h p = elim l [ ]
packs_found (suc n) before xs l h p = ap (λ b. packs_by b (nat_lt 0 (slice_index xs 4 % 4))
    (packs_from n (little_number 2 xs) (after_header xs))) h
    ∙ ap (λ b. b || packs_from n (little_number 2 xs) (after_header xs)) p

pub packs_on : (n before : ℕ) (xs : List ℕ) → 0 < n → is_header before xs ≡ true
    → nat_lt 0 (slice_index xs 4 % 4) ≡ false
    → packs_from n before xs ≡ packs_from (n - 1) (little_number 2 xs) (after_header xs)
packs_on zero before xs l h p = elim l [ ]
packs_on (suc n) before xs l h p = ap (λ b. packs_by b (nat_lt 0 (slice_index xs 4 % 4))
    (packs_from n (little_number 2 xs) (after_header xs))) h
    ∙ ap (λ b. b || packs_from n (little_number 2 xs) (after_header xs)) p
    ∙ ap (λ m. packs_from m (little_number 2 xs) (after_header xs)) (sym (less_one n))
