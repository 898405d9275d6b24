-- The order in which the images of a file are read.
use Rattle.std.proofs.Common.{◌≡◌, ◌<◌, ◌||◌, ◌==◌, ℕ, Bool, true, false, List, [], ◌∷◌}
use Rattle.std.proofs.Common.{◌++◌, length, refl, arith, get_or}
use Rattle.std.proofs.{Math.ListN.set, lemmas.Bool.Decides.nat_tests}
use Rattle.std.proofs.lemmas.List.{length-set, get_or-set_same, get_or-set_other}
use Rattle.tape_run.specs.ReadingOrder.{is_in, with_image, followed_by}

pub is_in_more : (n m : ℕ) (ms : List ℕ) → is_in n (ms ++ m ∷ []) ≡ (is_in n ms || (m == n))
is_in_more n m [] = grind (arith, nat_tests)
is_in_more n m (k ∷ ms) = let more = is_in_more n m ms in grind (arith, nat_tests, more)

-- an image that was added is marked as taken
pub marked : (taken : List Bool) (numbers : List ℕ) (number : ℕ)
    → ((n : ℕ) → n < length taken → get_or taken n false ≡ is_in n numbers)
    → number < length taken → (n : ℕ) → n < length (set taken number true)
    → get_or (set taken number true) n false ≡ is_in n (numbers ++ number ∷ [])
marked taken numbers number same within n less =
    grind (arith, is_in_more, get_or-set_other, length-set, get_or-set_same)

-- the rest after two lists, one after the other
pub followed_twice : (size : ℕ) (before xs ys : List ℕ)
    → followed_by size before (xs ++ ys) ≡ followed_by size (followed_by size before xs) ys
followed_twice size before [] ys = refl
followed_twice size before (x ∷ xs) ys = followed_twice size (with_image size before x) xs ys
