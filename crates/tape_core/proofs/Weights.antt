-- The weight of parts.
use Rattle.std.proofs.Common.{◌≡◌, ◌≤◌, ◌+◌, ◌<◌, ℕ, zero, suc, List, [], ◌∷◌, ◌++◌, length, take}
use Rattle.std.proofs.Common.{drop, refl, sym, ap, ◌∙◌, arith, append-nil}
use Rattle.tape_blocks.specs.Block.{Portion}
use Rattle.tape_core.specs.{Stands.weight_of, Memory.IsLongestFront, Weight.IsFront}

weight_more : (x : Portion) (xs : List Portion)
    → weight_of (x ∷ xs) ≡ (5 + length x.bytes) + weight_of xs
weight_more x xs = refl

pub weight_of-append : (xs ys : List Portion) → weight_of (xs ++ ys) ≡ weight_of xs + weight_of ys
weight_of-append [] ys = omega arith
weight_of-append (x ∷ xs) ys = let rest = weight_of-append xs ys in omega (arith, rest)

-- the weight of one more part
pub weight_of-one_more : (xs all : List Portion) (x : Portion) → all ≡ xs ++ x ∷ []
    → weight_of all ≡ weight_of xs + (5 + length x.bytes)
weight_of-one_more xs all x is =
    let e = ap weight_of is ∙ weight_of-append xs (x ∷ []) in
    omega (arith, e, weight_more x [])

-- one more part of a prefix
take_more : (n : ℕ) (all : List Portion) (part : Portion) (parts : List Portion)
    → drop n all ≡ part ∷ parts → take (suc n) all ≡ take n all ++ part ∷ []
take_more n [] part parts is = absurd (nothing n is)
  where
    nothing : (n : ℕ) → drop n [] ≡ part ∷ parts → ⊥
    nothing zero is = cc
    nothing (suc n) is = cc
take_more zero (x ∷ xs) part parts is = let a : x ≡ part = cc in ap (λ p. p ∷ []) a
take_more (suc n) (x ∷ xs) part parts is = ap (λ l. x ∷ l) (take_more n xs part parts is)

pub weight_of-more : (n : ℕ) (all : List Portion) (part : Portion) (parts : List Portion)
    → drop n all ≡ part ∷ parts
    → weight_of (take (suc n) all) ≡ weight_of (take n all) + (5 + length part.bytes)
weight_of-more n all part parts is =
    weight_of-one_more (take n all) (take (suc n) all) part (take_more n all part parts is)

-- parts that weigh more than some number are not empty
pub front_has_parts : (n : ℕ) (all : List Portion) (most : ℕ) → most < weight_of (take n all)
    → 0 < n
front_has_parts zero all most more = absurd (omega (arith, more))
front_has_parts (suc n) all most more = omega arith

-- a prefix of exactly this weight is the longest one that weighs no more
pub longest_is : (most : ℕ) (xs ys front rest : List Portion) → IsLongestFront most xs ys
    → ys ≡ front ++ rest → weight_of front ≡ most → front ≡ xs
longest_is most xs ys front rest is split weighs =
    same xs front is.rest rest (sym is.whole ∙ split) (omega (arith, is.light, weighs))
    (λ part parts e. omega (arith, is.next part parts e, weighs))
  where
    same : (xs front more rest : List Portion) → xs ++ more ≡ front ++ rest
        → weight_of xs ≤ weight_of front
        → ((part : Portion) (parts : List Portion) → more ≡ part ∷ parts
        → weight_of front < weight_of xs + (5 + length part.bytes)) → front ≡ xs
    same [] [] more rest e light next = refl
    same [] (p ∷ ps) more rest e light next =
        absurd (omega (arith, next p (ps ++ rest) e, weight_more p ps))
    same (x ∷ xs) [] more rest e light next =
        absurd (omega (arith, light, weight_more x xs))
    same (x ∷ xs) (p ∷ ps) more rest e light next =
        let a : x ≡ p = cc in
        let b : xs ++ more ≡ ps ++ rest = cc in
        let w = ap (λ (q : Portion). length q.bytes) a in
        let below = same xs ps more rest b
        (omega (arith, light, w, weight_more x xs, weight_more p ps))
        (λ part parts is. omega (arith, next part parts is, w, weight_more x xs, weight_more p ps))
        in
        ap (λ (q : Portion). q ∷ ps) (sym a) ∙ ap (λ (l : List Portion). x ∷ l) below

nothing_weighs : (front r : List Portion) → weight_of r ≡ 0 → front ++ r ≡ front
nothing_weighs front [] h = append-nil front
nothing_weighs front (p ∷ ps) h = absurd (omega (arith, h, weight_more p ps))

-- a prefix that weighs as much as all parts is all parts
pub front_of_all : (front all : List Portion) → IsFront front all → weight_of all ≤ weight_of front
    → all ≡ front
front_of_all front all (r, e) less =
    let none : weight_of r ≡ 0 = omega (arith, less, ap weight_of e, weight_of-append front r) in
    e ∙ nothing_weighs front r none
