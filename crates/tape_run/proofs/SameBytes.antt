-- Slices compared by words of eight bytes.
use Rattle.std.proofs.Common.{◌≡◌, ◌++◌, ℕ, List, sym, ap, ◌∙◌, take, drop}
use Rattle.std.proofs.lemmas.List.{take-append-drop}

-- what begins and goes on with the same bytes is the same
pub same_whole : (n : ℕ) (left right : List ℕ) → take n left ≡ take n right
    → drop n left ≡ drop n right → left ≡ right
same_whole n left right front back =
    sym (take-append-drop n left) ∙ (ap (λ z. z ++ drop n left) front
    ∙ (ap (λ z. take n right ++ z) back ∙ take-append-drop n right))
