-- Sizes with a letter at their end.
use Rattle.std.proofs.Common.{◌≡◌, ◌⊎◌, inl, inr, ◌<◌, ◌≤◌, ◌*◌, ◌^◌, ◌++◌, ◌∷◌, ℕ, List, [], drop}
use Rattle.std.proofs.Common.{cond, refl, sym, ap, subst, ◌∙◌, arith, Bool, true, false, ◌==◌}
use Rattle.std.proofs.Common.{le-mul_of_pos_right, lt_of_le_of_lt, Option, Some, None, IfNone}
use Rattle.std.proofs.Common.{SomeIff}
use Rattle.std.specs.Str.Parse.{IsNumeral, AllDigits, digits_value, without_leading_plus}
use Rattle.std.specs.Char.{digit_value}
use Rattle.tape_tool.specs.Words.{IsUnit, IsSize, EndsInLetter}

-- ---- letters are no digits

last_digit : (xs : List ℕ) (c : ℕ) → AllDigits 10 (xs ++ c ∷ []) → digit_value c < 10
last_digit [] c (here, more) = here
last_digit (x ∷ xs) c (here, more) = last_digit xs c more

last_stripped : (x : ℕ) (xs : List ℕ) (c : ℕ) (b : Bool)
    → AllDigits 10 (drop (cond b 1 0) (x ∷ (xs ++ c ∷ []))) → digit_value c < 10
last_stripped x xs c true all = last_digit xs c all
last_stripped x xs c false all = last_digit (x ∷ xs) c all

-- a last character that is no plus sign is a digit
last_fits : (front : List ℕ) (c : ℕ) → (c == 43) ≡ false
    → AllDigits 10 (without_leading_plus (front ++ c ∷ [])) → digit_value c < 10
last_fits [] c none all =
    (subst (λ z. AllDigits 10 (drop (cond z 1 0) (c ∷ []))) none all).0
last_fits (x ∷ xs) c none all = last_stripped x xs c (x == 43) all

no_letter : (front : List ℕ) (c : ℕ) → (c ≡ 75) ⊎ (c ≡ 77) ⊎ (c ≡ 71)
    → AllDigits 10 (without_leading_plus (front ++ c ∷ [])) → ⊥
no_letter front c (inl h) all = omega (arith, last_fits front 75 refl (rw (sym h) all))
no_letter front c (inr (inl h)) all = omega (arith, last_fits front 77 refl (rw (sym h) all))
no_letter front c (inr (inr h)) all = omega (arith, last_fits front 71 refl (rw (sym h) all))

factor_some : (unit : List ℕ) (factor : ℕ) → IsUnit unit factor → 0 < factor
factor_some unit factor is = grind (arith, is)

-- a size of which only these digits and this factor can be
module _ (text digits : List ℕ) (factor n : ℕ)
    (only : (ds unit : List ℕ) (f : ℕ) → text ≡ ds ++ unit → IsUnit unit f
    → ((ds ≡ digits) × (f ≡ factor)) ⊎ EndsInLetter ds) (s : IsSize text n) where
  size_parts : (s.digits ≡ digits) × (s.factor ≡ factor)
  size_parts = elim (only s.digits s.unit s.factor s.text_is s.of_unit) [
    | inl h ↦ h
    | inr (front, c, e, letter) ↦ absurd (no_letter front c letter
        (subst (λ d. AllDigits 10 (without_leading_plus d)) e s.numeral.1))
  ]

  pub size_is : IsNumeral 10 (without_leading_plus digits)
      × (n ≡ digits_value 10 (without_leading_plus digits) * factor) × (n < 2 ^ 32)
  size_is = (
    subst (λ d. IsNumeral 10 (without_leading_plus d)) size_parts.0 s.numeral,
    s.value ∙ ap (λ d. digits_value 10 (without_leading_plus d) * s.factor) size_parts.0
        ∙ ap (λ f. digits_value 10 (without_leading_plus digits) * f) size_parts.1,
    s.few,
  )

  -- the digits of a size are a number that fits
  pub digits_fit : IsNumeral 10 (without_leading_plus digits)
      × (digits_value 10 (without_leading_plus digits) < 2 ^ 32)
  digits_fit =
      let f = subst (λ f. 0 < f) size_parts.1 (factor_some s.unit s.factor s.of_unit) in
      let v = digits_value 10 (without_leading_plus digits) in
      let least : v ≤ v * factor = le-mul_of_pos_right v f in
      (size_is.0, lt_of_le_of_lt (subst (λ m. v ≤ m) (sym size_is.1) least) size_is.2)

  pub product_fits : (number : ℕ) → number ≡ digits_value 10 (without_leading_plus digits)
      → number * factor < 2 ^ 32
  product_fits number is =
      subst (λ m. m < 2 ^ 32) (size_is.1 ∙ ap (λ d. d * factor) (sym is)) size_is.2

pub none_if : (r : Option ℕ) (P : Type 0) (v : ℕ) (R : ℕ → Type 0) → SomeIff r P v
    → ((n : ℕ) → R n → P) → IfNone r ((n : ℕ) → R n → ⊥)
none_if None P v R s h = λ n x. s (h n x)
none_if (Some x) P v R s h = tt
