-- The test cases for the arguments of `write`.
use Rattle.std.proofs.Common.{◌≡◌, ℕ, suc, Bool, true, false, refl, inl, inr, arith}
use Rattle.tape_label.specs.declared.values.Format.TheVariants.{Fixed, Counted, Spanned}
use Rattle.tape_tool.specs.{CasesOfWriting.CasesOfWriting, Writing.IsNoShape}

counted : (n : ℕ) (pad_full : Bool) → IsNoShape Counted n pad_full → ⊥
counted n pad_full (inl h) = h.1 refl
counted n pad_full (inr h) = let e : Counted ≡ Fixed = h.0 in cc

fixed : (n : ℕ) → IsNoShape Fixed (suc n) false → ⊥
fixed n (inl h) = let e : false ≡ true = h.0 in cc
fixed n (inr h) = absurd (let e : suc n ≡ 0 = h.1 in omega arith)

spanned : (n : ℕ) → IsNoShape Spanned n false → ⊥
spanned n (inl h) = let e : false ≡ true = h.0 in cc
spanned n (inr h) = let e : Spanned ≡ Fixed = h.0 in cc

pub cases_of_writing : CasesOfWriting
cases_of_writing = record {
  counted = counted;
  fixed = fixed;
  spanned = spanned;
  padded = λ n. (
    inl (refl, λ e. cc),
    inl (refl, λ e. cc),
  );
  empty = inr (refl, refl);
}
