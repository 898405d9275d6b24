-- The search for a place at which items begin again, and what is looked at.
use Rattle.std.proofs.Common.{◌≡◌, ℕ, suc, ◌+◌, ◌-◌, ◌≤◌, ◌<◌, Bool, true, false, min, nat_le}
use Rattle.std.proofs.Common.{if◌then◌else◌, List, [], ◌++◌, length, take}
use Rattle.std.proofs.Common.{drop, Option, Some, None, IfSome, refl, sym, ap, ◌∙◌}
use Rattle.std.proofs.Common.{arith, append-nil}
use Rattle.std.proofs.lemmas.Bool.Decides.{nat_tests}
use Rattle.std.specs.Io.KnownBytes.{Keeps, IsAtEnd, prepend_known}
use lib.Seq.{take_all, take-append-le}
use Rattle.tape_image.specs.Resync.{begins_again, place_from, place_again, items_again}

-- ---- what is held is what is looked at

-- as many bytes as there are, or n
take_min : (n m : ℕ) (held : List ℕ) → m ≡ min (length held) n → take m held ≡ take n held
take_min n m held e = go (nat_le n (length held)) refl
  where
    go : (t : Bool) → nat_le n (length held) ≡ t → take m held ≡ take n held
    go true f =
        let long : n ≤ length held = grind (arith, nat_tests) in
        ap (λ k. take k held) {x = m} {y = n} (omega (arith, e, long))
    go false f =
        let few : length held < n = grind (arith, nat_tests) in
        take_all m held (omega (arith, e, few)) ∙ sym (take_all n held (omega (arith, few)))

-- what is held, a window or all that are left, is looked at
pub place_seen : (a : Option (List ℕ)) (held : List ℕ) (place : Option ℕ) (n m : ℕ) (whole : Bool)
    → (whole ≡ true → n ≤ length held) → (whole ≡ false → (length held < n) × IsAtEnd a)
    → m ≡ min (length held) n → place ≡ place_again (take m held)
    → IfSome (prepend_known held a) (λ xs. place ≡ place_again (take n xs))
place_seen None held place n m whole h k e f = tt
place_seen (Some ys) held place n m true h k e f =
    f ∙ ap place_again (take_min n m held e ∙ sym (take-append-le n held ys (h refl)))
place_seen (Some ys) held place n m false h k e f =
    f ∙ ap place_again (take_min n m held e ∙ ap (take n) (sym (append-nil held)
    ∙ ap (λ (r : List ℕ). held ++ r) (sym (k refl).1)))

-- what was left of the device before it was read
pub place_kept : (a b : Option (List ℕ)) (held : List ℕ) (place : Option ℕ) → held ≡ []
    → Keeps (prepend_known held a) b
    → IfSome b (λ xs. place ≡ items_again xs) → IfSome a (λ xs. place ≡ items_again xs)
place_kept None b held place e k h = tt
place_kept (Some x) None held place e k h = absurd k
place_kept (Some x) (Some y) held place e k h =
    h ∙ ap items_again (k ∙ ap (λ (l : List ℕ). l ++ x) e)

-- ---- the search

-- items do not begin again here
pub next_place : (at end : ℕ) (xs : List ℕ) → at < end → begins_again (drop at xs) ≡ false
    → place_from at (end - at) xs ≡ place_from (at + 1) (end - (at + 1)) xs
next_place at end xs h k =
    ap (λ n. place_from at n xs) {x = end - at} {y = suc (end - (at + 1))} (omega (arith, h))
    ∙ ap (λ (t : Bool). if t then Some at else place_from (suc at) (end - (at + 1)) xs) k
    ∙ ap (λ n. place_from n (end - (at + 1)) xs) {x = suc at} {y = at + 1} (omega arith)

-- they do
pub this_place : (at end : ℕ) (xs : List ℕ) → at < end → begins_again (drop at xs) ≡ true
    → place_from at (end - at) xs ≡ Some at
this_place at end xs h k =
    ap (λ n. place_from at n xs) {x = end - at} {y = suc (end - (at + 1))} (omega (arith, h))
    ∙ ap (λ (t : Bool). if t then Some at else place_from (suc at) (end - (at + 1)) xs) k
