-- The counted form determines its records.
use Rattle.std.proofs.Common.{◌≡◌, ℕ, ◌+◌, ◌*◌, ◌/◌, ◌%◌, ◌^◌, ◌<◌, List, [], ◌∷◌, ◌++◌, length}
use Rattle.std.proofs.Common.{take, drop, refl, sym, ap, ◌∙◌, arith}
use Rattle.std.proofs.lemmas.List.{take_at, drop_at}
use Rattle.std.specs.Int.{w32, to_be_bytes}
use Rattle.tape_blocks.specs.CountedForm.{length_bytes, counted_text, CountedKeepsAll}

-- the number in the first four bytes
abbrev number_of : List ℕ → ℕ
number_of (a ∷ b ∷ c ∷ d ∷ bytes) = ((a * 256 + b) * 256 + c) * 256 + d
number_of _ = 0

four : (n : ℕ) → ((n / 16777216 * 256 + n / 65536 % 256) * 256 + n / 256 % 256) * 256 + n % 256 ≡ n
four n = omega arith

pub counted_keeps : CountedKeepsAll
counted_keeps [] [] e = refl
counted_keeps [] (s ∷ ss) e = absurd cc
counted_keeps (r ∷ rs) [] e = absurd cc
counted_keeps (r ∷ rs) (s ∷ ss) e =
    let long : length r ≡ length s =
    sym (four (length r)) ∙ ap number_of e ∙ four (length s) in
    let rest : r ++ counted_text rs ≡ s ++ counted_text ss = ap (drop 4) e in
    let first : r ≡ s =
    sym (take_at r (counted_text rs) (length r) refl) ∙ ap (take (length r)) rest
    ∙ ap (λ (n : ℕ). take n (s ++ counted_text ss)) long
    ∙ take_at s (counted_text ss) (length s) refl in
    let others : counted_text rs ≡ counted_text ss =
    sym (drop_at r (counted_text rs) (length r) refl) ∙ ap (drop (length r)) rest
    ∙ ap (λ (n : ℕ). drop n (s ++ counted_text ss)) long
    ∙ drop_at s (counted_text ss) (length s) refl in
    ap (λ (x : List ℕ). x ∷ rs) first
    ∙ ap (λ (xs : List (List ℕ)). s ∷ xs) (counted_keeps rs ss others)

-- the four bytes of a number
pub length_is : (n : ℕ) → n < 2 ^ 32 → to_be_bytes w32 n ≡ length_bytes n
length_is n few =
    ap (λ (first : ℕ). first ∷ n / 65536 % 256 ∷ n / 256 % 256 ∷ n % 256 ∷ []) (omega (arith, few))
