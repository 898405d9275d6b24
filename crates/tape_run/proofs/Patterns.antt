-- The search that decides whether a word fits a pattern, step by step.
use Rattle.std.proofs.Common.{◌≡◌, ◌≢◌, ◌⊎◌, inl, inr, ℕ, ◌+◌, ◌*◌, ◌<◌, ◌≤◌, List, [], ◌∷◌, ◌++◌}
use Rattle.std.proofs.Common.{length, drop, refl, sym, ap, subst, ◌∙◌, arith, append_assoc}
use Rattle.std.proofs.Common.{length-append, mul-le-mul_right, add-mul, one-mul, Bool, true, false}
use Rattle.std.proofs.{Common.◌==◌, Math.Seq.drop-append_seam}
use Rattle.std.proofs.lemmas.List.{drop-append-le, length-drop, nil_from_length}
use Rattle.tape_run.specs.UnpackChoice.{Fits}

-- no character is a star
abbrev pub NoStar : List ℕ → Type 0
NoStar [] = Unit {0}
NoStar (c ∷ cs) = (c ≢ 42) × NoStar cs

-- a word fits the pattern if a later part of it does, after the star
abbrev pub Later : List ℕ → List ℕ → Type 0
Later pattern word = (piece rest : List ℕ) × (word ≡ piece ++ rest) × (1 ≤ length piece)
    × Fits pattern rest

-- the pattern and the word had the same characters before their rests, and no star
abbrev pub Passed : List ℕ → List ℕ → List ℕ → List ℕ → Type 0
Passed after from left rest = (same : List ℕ) × (after ≡ same ++ left) × (from ≡ same ++ rest)
    × NoStar same

-- The word fits the pattern if the rest of the word fits the rest of the pattern, or if the pattern
-- after the last star fits the word from a later character on.
pub record Tried (pattern word after from left rest : List ℕ) : Type 0 where
  pub onward : Fits pattern word → Fits left rest ⊎ Later after from
  pub here : Fits left rest → Fits pattern word
  pub later : Later after from → Fits pattern word
  pub passed : (from ≡ []) ⊎ Passed after from left rest
  pub few : length left ≤ length after
  pub after_len : length after ≤ length pattern
  pub from_len : length from ≤ length word
  pub rest_len : length rest ≤ length word

-- an empty rest has no later part
pub never_later : (after from : List ℕ) → from ≡ [] → Later after from → ⊥
never_later after from none (piece, rest, e, some, f) =
    let l = ap length (sym none ∙ e) ∙ length-append piece rest in
    absurd (let z : 0 ≡ length piece + length rest = l in omega (arith, some, z))

-- nothing was tried yet
pub tried_none : (pattern word : List ℕ) → Tried pattern word pattern [] pattern word
tried_none pattern word = record {
  onward = λ f. inl f;
  here = λ f. f;
  later = λ l. absurd (never_later pattern [] refl l);
  passed = inl refl;
  few = omega arith;
  after_len = omega arith;
  from_len = omega arith;
  rest_len = omega arith;
}

-- characters of a pattern that are not stars represent themselves
plain_first : (same left word : List ℕ) → NoStar same → Fits (same ++ left) word
    → (rest : List ℕ) × (word ≡ same ++ rest) × Fits left rest
plain_first [] left word plain f = (word, refl, f)
plain_first (c ∷ cs) left word (n, ns) (piece, rest, e, r, f) =
    let (last, e2, g) = plain_first cs left rest ns f in
    (last, e ∙ ap (λ x. x ++ rest) (r n) ∙ ap (λ x. c ∷ x) e2, g)

-- ---- a star

first_or_later : (others rest : List ℕ) → Fits (42 ∷ others) rest
    → Fits others rest ⊎ Later others rest
first_or_later others rest ([], more, e, r, f) = inl (subst (Fits others) (sym e) f)
first_or_later others rest (c ∷ cs, more, e, r, f) = inr (c ∷ cs, more, e, omega arith, f)

-- If a later part of the word fits the pattern after an earlier star, a later part fits the pattern
-- after this star.
still_later : (after from others rest : List ℕ) → Passed after from (42 ∷ others) rest
    → Later after from → Later others rest
still_later after from others rest (same, a, b, plain) (piece, more, e, some, f) =
    let (r2, e2, f2) = plain_first _ (42 ∷ others) more plain (subst (λ x. Fits x more) a f) in
    let (p2, r3, e3, r, f3) = f2 in
    let all : same ++ rest ≡ (piece ++ same) ++ (p2 ++ r3) = sym b ∙ e ∙ ap (λ x. piece ++ x)
    (e2 ∙ ap (λ x. same ++ x) e3) ∙ sym (append_assoc piece same (p2 ++ r3)) in
    let n : length same ≤ length (piece ++ same) = omega (arith, length-append piece same) in
    let cut : rest ≡ drop (length same) (piece ++ same) ++ (p2 ++ r3) = sym
    (drop-append_seam same rest) ∙ ap (drop (length same)) all ∙ drop-append-le (length same)
    (piece ++ same) (p2 ++ r3) n in
    let x = drop (length same) (piece ++ same) in
    let l : 1 ≤ length (x ++ p2) = omega (
      arith,
      length-append x p2,
      some,
      length-drop (length same) (piece ++ same),
      length-append piece same,
    ) in
    (x ++ p2, r3, cut ∙ sym (append_assoc x p2 r3), l, f3)

either_later : (after from others rest : List ℕ)
    → (from ≡ []) ⊎ Passed after from (42 ∷ others) rest → Later after from → Later others rest
either_later after from others rest (inl none) l = absurd (never_later after from none l)
either_later after from others rest (inr passed) l = still_later after from others rest passed l

of_star : (others piece rest : List ℕ) (word : List ℕ) → word ≡ piece ++ rest → Fits others rest
    → Fits (42 ∷ others) word
of_star others piece rest word e f = (piece, rest, e, λ n. absurd (n refl), f)

pub tried_star : (pattern word after from left others rest : List ℕ) → left ≡ 42 ∷ others
    → Tried pattern word after from left rest → Tried pattern word others rest others rest
tried_star pattern word after from left others rest is t =
    let u : Tried pattern word after from (42 ∷ others) rest
    = subst (λ x. Tried pattern word after from x rest) is t in
    record {
      onward = λ f. elim (u.onward f) [
        | inl h ↦ first_or_later others rest h
        | inr l ↦ inr (either_later after from others rest u.passed l)
      ];
      here = λ f. u.here (of_star others [] rest rest refl f);
      later = λ (piece, more, e, some, f). u.here (of_star others piece more rest e f);
      passed = inr ([], refl, refl, tt);
      few = omega arith;
      after_len = omega (arith, u.few, u.after_len);
      from_len = u.rest_len;
      rest_len = u.rest_len;
    }

-- ---- a character

of_plain : (c : ℕ) (others rest : List ℕ) → c ≢ 42 → Fits (c ∷ others) (c ∷ rest) → Fits others rest
of_plain c others rest n (piece, more, e, r, f) =
    let is : c ∷ rest ≡ c ∷ more = e ∙ ap (λ x. x ++ more) (r n) in
    subst (Fits others) (sym (ap (drop 1) is)) f

no_star_more : (same : List ℕ) (c : ℕ) → NoStar same → c ≢ 42 → NoStar (same ++ c ∷ [])
no_star_more [] c plain n = (n, tt)
no_star_more (d ∷ ds) c (m, ms) n = (m, no_star_more ds c ms n)

passed_more : (after from : List ℕ) (c : ℕ) (others bytes : List ℕ) → c ≢ 42
    → (from ≡ []) ⊎ Passed after from (c ∷ others) (c ∷ bytes)
    → (from ≡ []) ⊎ Passed after from others bytes
passed_more after from c others bytes n (inl none) = inl none
passed_more after from c others bytes n (inr (same, a, b, plain)) = inr (
  same ++ c ∷ [],
  a ∙ sym (append_assoc same (c ∷ []) others),
  b ∙ sym (append_assoc same (c ∷ []) bytes),
  no_star_more same c plain n,
)

pub tried_plain : (pattern word after from left rest others bytes : List ℕ) (c : ℕ)
    → left ≡ c ∷ others → rest ≡ c ∷ bytes → ((others : List ℕ) → left ≢ 42 ∷ others)
    → Tried pattern word after from left rest → Tried pattern word after from others bytes
tried_plain pattern word after from left rest others bytes c is at star t =
    let n : c ≢ 42 = λ e. star others (is ∙ ap (λ x. x ∷ others) e) in
    let u : Tried pattern word after from (c ∷ others) (c ∷ bytes)
    = subst (λ x. Tried pattern word after from x (c ∷ bytes)) is
    (subst (λ x. Tried pattern word after from left x) at t) in
    record {
      onward = λ f. elim (u.onward f) [
        | inl h ↦ inl (of_plain c others bytes n h)
        | inr l ↦ inr l
      ];
      here = λ f. u.here (c ∷ [], bytes, refl, λ m. refl, f);
      later = u.later;
      passed = passed_more after from c others bytes n u.passed;
      few = omega (arith, u.few);
      after_len = u.after_len;
      from_len = u.from_len;
      rest_len = omega (arith, u.rest_len);
    }

-- ---- no star, and different characters

-- the rest of the word does not fit
pub fits_not : (left rest : List ℕ) → ((others : List ℕ) → left ≢ 42 ∷ others)
    → ((c : ℕ) (others bytes : List ℕ) → left ≡ c ∷ others → rest ≢ c ∷ bytes)
    → (left ≡ [] → rest ≢ []) → Fits left rest → ⊥
fits_not [] rest star same some f = some refl f
fits_not (c ∷ others) rest star same some (piece, more, e, r, f) =
    let piece_is : piece ≡ c ∷ [] = r (λ is. star others (ap (λ x. x ∷ others) is)) in
    same c others more refl (e ∙ ap (λ x. x ++ more) piece_is)

here_or_later : (after from bytes : List ℕ) (b : ℕ) → from ≡ b ∷ bytes → Later after from
    → Fits after bytes ⊎ Later after bytes
here_or_later after from bytes b is ([], rest, e, some, f) = absurd (omega (arith, some))
here_or_later after from bytes b is (c ∷ [], rest, e, some, f) =
    inl (subst (Fits after) (sym (ap (drop 1) (sym is ∙ e))) f)
here_or_later after from bytes b is (c ∷ d ∷ cs, rest, e, some, f) =
    inr (d ∷ cs, rest, ap (drop 1) (sym is ∙ e), omega arith, f)

pub tried_later : (pattern word after from left rest bytes : List ℕ) (b : ℕ) → from ≡ b ∷ bytes
    → (Fits left rest → ⊥) → Tried pattern word after from left rest
    → Tried pattern word after bytes after bytes
tried_later pattern word after from left rest bytes b is not t = record {
  onward = λ f. elim (t.onward f) [
    | inl h ↦ absurd (not h)
    | inr l ↦ here_or_later after from bytes b is l
  ];
  here = λ f. t.later (b ∷ [], bytes, is, omega arith, f);
  later = λ (piece, more, e, some, f). t.later (
    b ∷ piece,
    more,
    is ∙ ap (λ x. b ∷ x) e,
    omega arith,
    f,
  );
  passed = inr ([], refl, refl, tt);
  few = omega arith;
  after_len = t.after_len;
  from_len = omega (arith, t.from_len, ap length is);
  rest_len = omega (arith, t.from_len, ap length is);
}

pub fits_no_more : (pattern word after from left rest : List ℕ) → length from ≡ 0
    → (Fits left rest → ⊥) → Tried pattern word after from left rest → Fits pattern word → ⊥
fits_no_more pattern word after from left rest none not t f = elim (t.onward f) [
  | inl h ↦ not h
  | inr l ↦ never_later after from (nil_from_length from none) l
]

-- ---- the rest becomes shorter

-- a number of two digits is less than another if its first digit is less, or if the first digits
-- are equal and its second digit is less
pub lower : (a b n x y : ℕ) → a < b → x < n → a * n + x < b * n + y
lower a b n x y less within =
    let m : (a + 1) * n ≤ b * n = mul-le-mul_right {m = a + 1} {n = b} n (omega (arith, less)) in
    omega (arith, m, add-mul a 1 n, one-mul n, within)

pub smaller_star : (pattern word after from left others rest : List ℕ) → left ≡ 42 ∷ others
    → Tried pattern word after from left rest
    → length others * ((length word + 1) * (length pattern + 1) + 1)
    + (length rest * (length pattern + 1) + length others)
    < length after * ((length word + 1) * (length pattern + 1) + 1)
    + (length from * (length pattern + 1) + length left)
smaller_star pattern word after from left others rest is t =
    let p = length pattern + 1 in
    let less : length others < length after = omega (arith, t.few, ap length is) in
    let few : length rest * p + length others < (length word + 1) * p + 1 = omega (
      arith,
      lower (length rest) (length word + 1) p (length others) 0 (omega (arith, t.rest_len))
          (omega (arith, less, t.after_len)),
    ) in
    let l = lower _ _ _ _ (length from * p + length left) less few in l

pub some_left : (b : Bool) (xs : List ℕ) → b ≡ (length xs == 0) → b ≡ false → xs ≢ []
some_left b xs e f none =
    absurd (let t : false ≡ true = sym f ∙ e ∙ ap (λ x. length x == 0) none in cc)
