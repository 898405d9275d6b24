-- A number and its digits with leading zeros determine each other.
use Rattle.std.proofs.Common.{◌≡◌, ℕ, zero, suc, ◌+◌, ◌-◌, ◌*◌, ◌/◌, ◌%◌, ◌^◌, ◌<◌, ◌≤◌, true, List}
use Rattle.std.proofs.Common.{[], ◌∷◌, ◌++◌, length, drop, arith, add-one, refl, ◌∙◌, append_assoc}
use Rattle.std.proofs.Common.{rules}
use Rattle.std.proofs.{lemmas.Bool.and_parts, Math.Nat.pow-suc, Math.Nat.pow-le-pow_right}
use Rattle.std.proofs.{lemmas.List.append-nil, lemmas.List.drop_all, lemmas.Grind.common_steps}
use Rattle.std.specs.{Str.all_ascii_digits, Char.is_ascii_digit}
use Rattle.tape_label.specs.Digits.{digits, number_after, number_of}

digit_range : (d : ℕ) → is_ascii_digit d ≡ true → (48 ≤ d) × (d < 58)
digit_range d e = search rules

-- ---- there and back

digits-number_after : (k n : ℕ) (ds : List ℕ) → all_ascii_digits ds ≡ true
    → digits (k + length ds) (number_after n ds) ≡ digits k n ++ ds
digits-number_after k n [] e = let z : k + 0 ≡ k = omega arith in rw (z, append-nil) refl
digits-number_after k n (d ∷ ds) e =
    let parts = and_parts (is_ascii_digit d) (all_ascii_digits ds) e in
    let range = digit_range d parts.0 in
    let widths : k + suc (length ds) ≡ suc k + length ds = omega arith in
    let high : (n * 10 + (d - 48)) / 10 ≡ n = omega arith in
    let low : 48 + (n * 10 + (d - 48)) % 10 ≡ d = omega arith in
    rw widths (digits-number_after (suc k) (n * 10 + (d - 48)) ds parts.1
    ∙ rw (high, low, append_assoc) refl)

-- digits that are read as a number are the digits of that number
pub digits-number_of : (ds : List ℕ) → all_ascii_digits ds ≡ true
    → digits (length ds) (number_of ds) ≡ ds
digits-number_of ds e =
    let z : 0 + length ds ≡ length ds = omega arith in
    rw z at (digits-number_after 0 0 ds e)

number_after-append : (n : ℕ) (xs ys : List ℕ)
    → number_after n (xs ++ ys) ≡ number_after (number_after n xs) ys
number_after-append n [] ys = refl
number_after-append n (x ∷ xs) ys = number_after-append (n * 10 + (x - 48)) xs ys

number_after-digits : (a k n : ℕ) → n < 10 ^ k → number_after a (digits k n) ≡ a * 10 ^ k + n
number_after-digits a zero n small = omega arith
number_after-digits a (suc k) n small =
    let more : 10 ^ suc k ≡ 10 ^ k * 10 = pow-suc 10 k in
    let front = number_after-digits a k (n / 10) (omega (arith, more)) in
    let last : number_after a (digits k (n / 10) ++ (48 + n % 10) ∷ [])
    ≡ number_after a (digits k (n / 10)) * 10 + (48 + n % 10 - 48) =
    number_after-append a (digits k (n / 10)) ((48 + n % 10) ∷ []) in
    last ∙ rw (front, more) (omega arith)

-- a number that fits in k digits is read back from them
pub number_of-digits : (k n : ℕ) → n < 10 ^ k → number_of (digits k n) ≡ n
number_of-digits k n small = number_after-digits 0 k n small ∙ omega arith

-- ---- properties of digits

pub length-digits : (k n : ℕ) → length (digits k n) ≡ k
length-digits zero n = refl
length-digits (suc k) n = grind (arith, common_steps, length-digits k (n / 10))

all_ascii_digits-append : (xs ys : List ℕ) → all_ascii_digits xs ≡ true → all_ascii_digits ys ≡ true
    → all_ascii_digits (xs ++ ys) ≡ true
all_ascii_digits-append [] ys p q = q
all_ascii_digits-append (x ∷ xs) ys p q =
    let parts = and_parts (is_ascii_digit x) (all_ascii_digits xs) p in
    rw (parts.0, all_ascii_digits-append xs ys parts.1 q) refl

last_digit : (n : ℕ) → all_ascii_digits ((48 + n % 10) ∷ []) ≡ true
last_digit n = search rules

pub all_ascii_digits-digits : (k n : ℕ) → all_ascii_digits (digits k n) ≡ true
all_ascii_digits-digits zero n = refl
all_ascii_digits-digits (suc k) n = all_ascii_digits-append (digits k (n / 10))
    ((48 + n % 10) ∷ []) (all_ascii_digits-digits k (n / 10)) (last_digit n)

-- ---- the greatest number with a given number of digits

widens : (a b p : ℕ) → a ≤ b → a * p ≤ b * p
widens a b p le = grind arith

number_after-lt : (n : ℕ) (ds : List ℕ) → all_ascii_digits ds ≡ true
    → number_after n ds < (n + 1) * 10 ^ length ds
number_after-lt n [] e = omega arith
number_after-lt n (d ∷ ds) e =
    let parts = and_parts (is_ascii_digit d) (all_ascii_digits ds) e in
    let range = digit_range d parts.0 in
    let more : 10 ^ suc (length ds) ≡ 10 ^ length ds * 10 = pow-suc 10 (length ds) in
    let rest = number_after-lt (n * 10 + (d - 48)) ds parts.1 in
    let wide = widens (n * 10 + (d - 48) + 1) ((n + 1) * 10) (10 ^ length ds) (omega arith) in
    rw more (omega (arith, rest, wide))

pub number_of-lt : (ds : List ℕ) → all_ascii_digits ds ≡ true → number_of ds < 10 ^ length ds
number_of-lt ds e = omega (arith, number_after-lt 0 ds e)

-- ---- steps of the loop that reads digits

pub one_more_digit : (n d i : ℕ) → n < 10 ^ i → d < 10 → n * 10 + d < 10 ^ (i + 1)
one_more_digit n d i small digit =
    let more : 10 ^ (i + 1) ≡ 10 ^ i * 10 = rw add-one (pow-suc 10 i) in
    omega (arith, more)

pub fits_nineteen : (n i : ℕ) → n < 10 ^ i → i < 19 → n < 10 ^ 18
fits_nineteen n i small lt = grind (arith, pow-le-pow_right)

pub ruleset counted_digits = (one_more_digit, fits_nineteen)

-- the loop at its end: all bytes are digits, and the number is that of the text
pub read_all : (number i : ℕ) (text : List ℕ) → length text ≤ i
    → number_after number (drop i text) ≡ number_of text
    → all_ascii_digits (drop i text) ≡ all_ascii_digits text
    → (all_ascii_digits text ≡ true) × (number ≡ number_of text)
read_all number i text le value tests = grind (arith, drop_all)
