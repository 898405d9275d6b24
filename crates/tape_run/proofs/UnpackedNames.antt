-- Names of files that are unpacked: each belongs to one file.
use Rattle.std.proofs.Common.{◌≡◌, ℕ, ◌+◌, ◌*◌, ◌<◌, ◌≤◌, ◌/◌, ◌%◌, ◌^◌, Bool, true, false, List}
use Rattle.std.proofs.Common.{[], ◌∷◌, ◌++◌, length, map, refl, sym, ap, ◌∙◌, arith, append_assoc}
use Rattle.std.proofs.Common.{codes, ◌==◌, ◌||◌, decimal, if◌then◌else◌}
use Rattle.std.specs.List.{AllByRecursion}
use Rattle.std.proofs.lemmas.{Bool.Decides.nat_tests, List.map-append, Fmt.decimal_by_steps}
use Rattle.std.proofs.lemmas.{Fmt.decimal_injective, Nat.div-add-mod', Nat.mod_below, Nat.div_below}
use Rattle.tape_run.specs.Quoting.{hex}
use Rattle.tape_run.specs.Unpacking.{is_plain, escaped, escaped_all, fit_text, file_name}
use Rattle.tape_run.specs.UnpackLaws.{NamesDiffer, AreBytes, folded}

-- ---- lists

abbrev first_of : (x : ℕ) (xs : List ℕ) → ℕ
first_of x [] = x
first_of x (y ∷ ys) = y

abbrev rest_of : List ℕ → List ℕ
rest_of [] = []
rest_of (y ∷ ys) = ys

pub heads : (a b : ℕ) (xs ys : List ℕ) → a ∷ xs ≡ b ∷ ys → a ≡ b
heads a b xs ys e = ap (first_of a) e

pub tails : (a b : ℕ) (xs ys : List ℕ) → a ∷ xs ≡ b ∷ ys → xs ≡ ys
tails a b xs ys e = ap rest_of e

-- ---- set identifiers

-- two bytes with the same text are equal
pub hex_one : (a b : ℕ) → a < 16 → b < 16 → hex a ≡ hex b → a ≡ b
hex_one a b p q e = grind (arith, nat_tests)

both : (a b : ℕ) → a < 256 → b < 256 → a / 16 ≡ b / 16 → a % 16 ≡ b % 16 → a ≡ b
both a b p q high low =
    sym (div-add-mod' a 16) ∙ ap (λ h. h * 16 + a % 16) high
    ∙ ap (λ l. b / 16 * 16 + l) low ∙ div-add-mod' b 16

pub record Split (a b : ℕ) (xs ys : List ℕ) : Type 0 where
  pub same : a ≡ b
  pub rest : xs ≡ ys

split_hex : (a b : ℕ) (xs ys : List ℕ) → a < 256 → b < 256
    → 37 ∷ hex (a / 16) ∷ hex (a % 16) ∷ xs ≡ 37 ∷ hex (b / 16) ∷ hex (b % 16) ∷ ys
    → Split a b xs ys
split_hex a b xs ys p q e =
    let behind = tails _ _ _ _ e in
    let low = tails _ _ _ _ behind in
    record {
      same = both _ _ p q (hex_one _ _ (div_below a 16 16 (omega arith) p)
          (div_below b 16 16 (omega arith) q) (heads _ _ _ _ behind)) (hex_one _ _
          (mod_below a 16 (omega arith)) (mod_below b 16 (omega arith)) (heads _ _ _ _ low));
      rest = tails _ _ _ _ low;
    }

-- the text of a byte, by whether it is plain and whether it is a space
abbrev pub by_kind : Bool → Bool → ℕ → List ℕ
by_kind plain space b =
    if plain then b ∷ [] else if space then codes "_"
    else 37 ∷ hex (b / 16) ∷ hex (b % 16) ∷ []

split_by : (a b : ℕ) (xs ys : List ℕ) → a < 256 → b < 256 → (p q u v : Bool)
    → is_plain a ≡ p → is_plain b ≡ q → (a == 32) ≡ u → (b == 32) ≡ v
    → by_kind p u a ++ xs ≡ by_kind q v b ++ ys → Split a b xs ys
split_by a b xs ys la lb true true u v pa pb sa sb e =
    record { same = heads a b xs ys e; rest = tails a b xs ys e }
split_by a b xs ys la lb true false u true pa pb sa sb e =
    absurd (let h : a ≡ 95 = heads a 95 xs ys e in grind (arith, nat_tests))
split_by a b xs ys la lb true false u false pa pb sa sb e =
    absurd (let h : a ≡ 37 = heads a 37 xs _ e in grind (arith, nat_tests))
split_by a b xs ys la lb false true true v pa pb sa sb e =
    absurd (let h : 95 ≡ b = heads 95 b xs ys e in grind (arith, nat_tests))
split_by a b xs ys la lb false true false v pa pb sa sb e =
    absurd (let h : 37 ≡ b = heads 37 b _ ys e in grind (arith, nat_tests))
split_by a b xs ys la lb false false true true pa pb sa sb e = record {
  same = grind (arith, nat_tests);
  rest = tails 95 95 xs ys e;
}
split_by a b xs ys la lb false false true false pa pb sa sb e =
    absurd (let h : 95 ≡ 37 = heads 95 37 xs _ e in omega (arith, h))
split_by a b xs ys la lb false false false true pa pb sa sb e =
    absurd (let h : 37 ≡ 95 = heads 37 95 _ ys e in omega (arith, h))
split_by a b xs ys la lb false false false false pa pb sa sb e = split_hex a b xs ys la lb e

split_one : (a b : ℕ) (xs ys : List ℕ) → a < 256 → b < 256
    → escaped a ++ xs ≡ escaped b ++ ys → Split a b xs ys
split_one a b xs ys la lb e = split_by _ _ _ _ la lb _ _ _ _ refl refl refl refl e

-- two identifiers of equal length are equal if a text begins with both of their texts
record SplitAll (s t xs ys : List ℕ) : Type 0 where
  same : s ≡ t
  rest : xs ≡ ys

split_all : (s t xs ys : List ℕ) → AreBytes s → AreBytes t → length s ≡ length t
    → escaped_all s ++ xs ≡ escaped_all t ++ ys → SplitAll s t xs ys
split_all [] [] xs ys ss ts n e = record { same = refl; rest = e }
split_all [] (b ∷ t) xs ys ss ts n e = absurd (omega (arith, n))
split_all (a ∷ s) [] xs ys ss ts n e = absurd (omega (arith, n))
split_all (a ∷ s) (b ∷ t) xs ys (la, ss) (lb, ts) n e =
    let one = split_one a b (escaped_all s ++ xs) (escaped_all t ++ ys) la lb
    (sym (append_assoc (escaped a) (escaped_all s) xs) ∙ e
    ∙ append_assoc (escaped b) (escaped_all t) ys) in
    let more = split_all s t xs ys ss ts (omega (arith, n)) one.rest in
    record {
      same = ap (λ c. c ∷ s) one.same ∙ ap (λ r. b ∷ r) more.same;
      rest = more.rest;
    }

-- ---- numbers

abbrev pub IsDigit : ℕ → Type 0
IsDigit b = (48 ≤ b) × (b ≤ 57)

digits_more : (xs : List ℕ) (d : ℕ) → AllByRecursion IsDigit xs → IsDigit d
    → AllByRecursion IsDigit (xs ++ d ∷ [])
digits_more [] d all is = (is, tt)
digits_more (x ∷ xs) d (one, all) is = (one, digits_more xs d all is)

pub digits_are : (n : ℕ) → n < 2 ^ 64 → AllByRecursion IsDigit (decimal n)
digits_are = decimal_by_steps (λ n ds. AllByRecursion IsDigit ds)
    (λ n small. ((omega arith, omega (arith, small)), tt))
    (λ n ds some all. let low : n % 10 < 10 = mod_below n 10 (omega arith) in
    digits_more ds (48 + n % 10) all (omega arith, omega (arith, low)))

-- the text before the first full stop
before_stop : (p q xs ys : List ℕ) → AllByRecursion IsDigit p → AllByRecursion IsDigit q
    → p ++ 46 ∷ xs ≡ q ++ 46 ∷ ys → p ≡ q
before_stop [] [] xs ys ps qs e = refl
before_stop [] (b ∷ q) xs ys ps (is, qs) e =
    absurd (let h : 46 ≡ b = heads 46 b xs _ e in omega (arith, h, is.0))
before_stop (a ∷ p) [] xs ys (is, ps) qs e =
    absurd (let h : a ≡ 46 = heads a 46 _ ys e in omega (arith, h, is.0))
before_stop (a ∷ p) (b ∷ q) xs ys (pa, ps) (qb, qs) e =
    ap (λ c. c ∷ p) (heads a b _ _ e)
    ∙ ap (λ r. b ∷ r) (before_stop p q xs ys ps qs (tails a b _ _ e))

pub wide : (n : ℕ) → n < 2 ^ 16 → n < 2 ^ 64
wide n p = omega (arith, p)

-- the text after the set identifier
abbrev pub numbered : ℕ → List ℕ → List ℕ
numbered n more = decimal n ++ 46 ∷ more

pub grouped : (s a : List ℕ) (n : ℕ)
    → file_name s n a ≡ escaped_all s ++ 46 ∷ numbered n (fit_text a)
grouped s a n =
    let dot : List ℕ = 46 ∷ [] in
    append_assoc (((escaped_all s ++ dot) ++ decimal n)) dot (fit_text a)
    ∙ append_assoc (escaped_all s ++ dot) (decimal n) (dot ++ fit_text a)
    ∙ append_assoc (escaped_all s) dot (decimal n ++ (dot ++ fit_text a))

-- ---- bytes

pub all_more : (P : ℕ → Type 0) (xs ys : List ℕ) → AllByRecursion P xs → AllByRecursion P ys
    → AllByRecursion P (xs ++ ys)
all_more P [] ys xsa ysa = ysa
all_more P (x ∷ xs) ys (one, xsa) ysa = (one, all_more P xs ys xsa ysa)

pub all_each : {P Q : ℕ → Type 0} → ((b : ℕ) → P b → Q b) → (xs : List ℕ) → AllByRecursion P xs
    → AllByRecursion Q xs
all_each f [] all = tt
all_each f (x ∷ xs) (one, all) = (f x one, all_each f xs all)

-- the bytes in the text of a set identifier
abbrev pub InSet : ℕ → Type 0
InSet b = (is_plain b || (b == 95) || (b == 37)) ≡ true

pub hex_in_set : (n : ℕ) → n < 16 → InSet (hex n)
hex_in_set n small = grind (arith, nat_tests)

kind_in_set : (b : ℕ) → b < 256 → (plain space : Bool) → is_plain b ≡ plain
    → AllByRecursion InSet (by_kind plain space b)
kind_in_set b small true space is = (grind (arith, nat_tests), tt)
kind_in_set b small false true is = (refl, tt)
kind_in_set b small false false is =
    let high = hex_in_set (b / 16) (div_below b 16 16 (omega arith) small) in
    let low = hex_in_set (b % 16) (mod_below b 16 (omega arith)) in (refl, (high, (low, tt)))

pub set_bytes : (s : List ℕ) → AreBytes s → AllByRecursion InSet (escaped_all s)
set_bytes [] ss = tt
set_bytes (b ∷ s) (small, ss) =
    all_more _ _ _ (kind_in_set _ small (is_plain b) (b == 32) refl) (set_bytes s ss)

-- ---- if case is ignored

same_folded : (xs : List ℕ) → AllByRecursion (λ b. folded b ≡ b) xs → map folded xs ≡ xs
same_folded [] all = refl
same_folded (x ∷ xs) (one, all) = ap (λ y. y ∷ map folded xs) one ∙ ap (λ ys. x ∷ ys)
    (same_folded xs all)

folded_in_set : (b : ℕ) → InSet b → folded b ≡ b
folded_in_set b is = grind (arith, nat_tests)

folded_digit : (b : ℕ) → IsDigit b → folded b ≡ b
folded_digit b (low, high) = grind (arith, nat_tests)

-- only the text after the number changes
folded_name : (s a x : List ℕ) (n : ℕ) → AreBytes s → n < 2 ^ 16
    → map folded (file_name s n a ++ x)
    ≡ escaped_all s ++ 46 ∷ numbered n (map folded (fit_text a ++ x))
folded_name s a x n ss small =
    let digits = same_folded _ (all_each folded_digit _ (digits_are _ (wide _ small))) in
    let set = same_folded _ (all_each folded_in_set _ (set_bytes _ ss)) in
    let rest = fit_text a ++ x in
    ap (λ l. map folded (l ++ x)) (grouped s a n) ∙ ap (map folded)
    (append_assoc (escaped_all s) (46 ∷ numbered n (fit_text a)) x) ∙ ap
    (λ l. map folded (escaped_all s ++ 46 ∷ l)) (append_assoc (decimal n) (46 ∷ fit_text a) x)
    ∙ map-append folded (escaped_all s) (46 ∷ numbered n rest) ∙ ap
    (λ l. l ++ map folded (46 ∷ numbered n rest)) set ∙ ap (λ l. escaped_all s ++ 46 ∷ l)
    (map-append folded (decimal n) (46 ∷ rest)) ∙ ap
    (λ l. escaped_all s ++ 46 ∷ (l ++ 46 ∷ map folded rest)) digits

pub names_differ : NamesDiffer
names_differ s t m n a b x y ss ts long lm ln e =
    let p = map folded (fit_text a ++ x) in
    let q = map folded (fit_text b ++ y) in
    let all = split_all _ _ (46 ∷ numbered m p) (46 ∷ numbered n q) ss ts long (sym
    (folded_name _ a x _ ss lm) ∙ e ∙ folded_name _ b y _ ts ln) in
    let behind = tails _ _ _ _ all.rest in (
      all.same,
      decimal_injective m n (wide _ lm) (wide _ ln) (before_stop _ _ _ _ (digits_are _ (wide _ lm))
          (digits_are _ (wide _ ln)) behind),
    )
