-- Every file system keeps the names of unpacked files.
use Rattle.std.proofs.Common.{◌≡◌, ◌≢◌, ℕ, zero, suc, ◌+◌, ◌*◌, ◌-◌, ◌<◌, ◌≤◌, ◌/◌, ◌%◌, ◌^◌, Bool}
use Rattle.std.proofs.Common.{true, false, List, [], ◌∷◌, ◌++◌, length, take, get_or, refl, sym, ap}
use Rattle.std.proofs.Common.{subst, ◌∙◌, arith, append_assoc, length-append, ◌==◌, ◌||◌, ◌&&◌, not}
use Rattle.std.proofs.Common.{decimal, if◌then◌else◌, flat_map}
use Rattle.std.specs.List.{AllByRecursion}
use Rattle.std.proofs.lemmas.{Bool.Decides.nat_tests, Fmt.decimal_nonempty, Fmt.length-decimal-le}
use Rattle.std.proofs.lemmas.Nat.{mod_below, div_below}
use Rattle.tape_run.specs.{Quoting.hex, SurveyLine.trimmed_len}
use Rattle.tape_run.specs.Unpacking.{is_plain, is_kept, escape, escaped, escaped_all, fit, fit_last}
use Rattle.tape_run.specs.Unpacking.{fit_text, file_name}
use Rattle.tape_run.specs.UnpackLaws.{NamesStay, NamesFit, AreBytes, MayStand}
use Rattle.tape_run.proofs.UnpackedNames.{IsDigit, InSet, all_each, all_more, by_kind, digits_are}
use Rattle.tape_run.proofs.UnpackedNames.{grouped, heads, hex_in_set, numbered, set_bytes, tails}
use Rattle.tape_run.proofs.UnpackedNames.{wide}

plain_stands : (b : ℕ) → InSet b → MayStand b
plain_stands b is = grind (arith, nat_tests)

digit_stands : (b : ℕ) → IsDigit b → MayStand b
digit_stands b (low, high) = grind (arith, nat_tests)

-- a byte at the end that no file system drops
record Ends (xs : List ℕ) : Type 0 where
  front : List ℕ
  byte : ℕ
  is : xs ≡ front ++ byte ∷ []
  full : MayStand byte
  no_space : byte ≢ 32
  no_stop : byte ≢ 46

hex_ends : (n : ℕ) → n < 16 → (hex n ≢ 32) × (hex n ≢ 46)
hex_ends n small = (λ e. grind (arith, nat_tests), λ e. grind (arith, nat_tests))

escape_stands : (b : ℕ) → b < 256 → AllByRecursion MayStand (escape b)
escape_stands b small =
    let high = hex_in_set (b / 16) (div_below b 16 16 (omega arith) small) in
    let low = hex_in_set (b % 16) (mod_below b 16 (omega arith)) in
    (refl, (plain_stands (hex (b / 16)) high, (plain_stands (hex (b % 16)) low, tt)))

escape_ends : (b : ℕ) → b < 256 → Ends (escape b)
escape_ends b small =
    let low = mod_below b 16 (omega arith) in record {
      front = 37 ∷ hex (b / 16) ∷ [];
      byte = hex (b % 16);
      is = refl;
      full = plain_stands (hex (b % 16)) (hex_in_set (b % 16) low);
      no_space = (hex_ends (b % 16) low).0;
      no_stop = (hex_ends (b % 16) low).1;
    }

abbrev fit_by : Bool → ℕ → List ℕ
fit_by kept b = if kept then b ∷ [] else escape b

fit_by_stands : (b : ℕ) → b < 256 → (kept : Bool) → (is_kept b && not (b == 37)) ≡ kept
    → AllByRecursion MayStand (fit_by kept b)
fit_by_stands b small true is = (grind (arith, nat_tests), tt)
fit_by_stands b small false is = escape_stands b small

fit_stands : (b : ℕ) → b < 256 → AllByRecursion MayStand (fit b)
fit_stands b small = fit_by_stands b small (is_kept b && not (b == 37)) refl

fit_by_ends : (b : ℕ) → b < 256 → b ≢ 32 → b ≢ 46 → (kept : Bool)
    → (is_kept b && not (b == 37)) ≡ kept → Ends (fit_by kept b)
fit_by_ends b small space stop true is = record {
  front = [];
  byte = b;
  is = refl;
  full = grind (arith, nat_tests);
  no_space = space;
  no_stop = stop;
}
fit_by_ends b small space stop false is = escape_ends b small

abbrev last_by : Bool → ℕ → List ℕ
last_by dropped b = if dropped then escape b else fit b

last_stands : (b : ℕ) → b < 256 → (dropped : Bool) → AllByRecursion MayStand (last_by dropped b)
last_stands b small true = escape_stands b small
last_stands b small false = fit_stands b small

last_ends : (b : ℕ) → b < 256 → (dropped : Bool) → ((b == 32) || (b == 46)) ≡ dropped
    → Ends (last_by dropped b)
last_ends b small true is = escape_ends b small
last_ends b small false is =
    fit_by_ends b small (λ e. grind (arith, nat_tests)) (λ e. grind (arith, nat_tests))
    (is_kept b && not (b == 37)) refl

ends_more : (xs ys : List ℕ) → Ends ys → Ends (xs ++ ys)
ends_more xs ys e = record {
  front = xs ++ e.front;
  byte = e.byte;
  is = ap (λ l. xs ++ l) e.is ∙ sym (append_assoc xs e.front (e.byte ∷ []));
  full = e.full;
  no_space = e.no_space;
  no_stop = e.no_stop;
}

byte_at : (a : List ℕ) (n : ℕ) → AreBytes a → get_or a n 32 < 256
byte_at [] n all = omega arith
byte_at (b ∷ a) zero (small, all) = small
byte_at (b ∷ a) (suc n) (small, all) = byte_at a n all

some_fit : (a : List ℕ) (n : ℕ) → AreBytes a → AllByRecursion MayStand (flat_map fit (take n a))
some_fit a zero all = tt
some_fit [] (suc n) all = tt
some_fit (b ∷ a) (suc n) (small, all) = all_more _ _ _ (fit_stands _ small) (some_fit a n all)

-- the text of a file identifier, by whether it has only spaces
abbrev first_by : Bool → ℕ → List ℕ → List ℕ
first_by none n a =
    if none then fit_last 32 else flat_map fit (take n a) ++ fit_last (get_or a n 32)

first_stands : (none : Bool) (a : List ℕ) (n : ℕ) → AreBytes a
    → AllByRecursion MayStand (first_by none n a)
first_stands true a n all = last_stands 32 (omega arith) true
first_stands false a n all =
    let b = get_or a n 32 in
    all_more _ _ _ (some_fit _ n all) (last_stands _ (byte_at _ n all) ((b == 32) || (b == 46)))

first_ends : (none : Bool) (a : List ℕ) (n : ℕ) → AreBytes a → Ends (first_by none n a)
first_ends true a n all = last_ends 32 (omega arith) true refl
first_ends false a n all =
    let b = get_or a n 32 in
    ends_more (flat_map fit (take n a)) (fit_last b)
    (last_ends b (byte_at a n all) ((b == 32) || (b == 46)) refl)

one_last : (xs ys : List ℕ) (a b : ℕ) → xs ++ a ∷ [] ≡ ys ++ b ∷ [] → a ≡ b
one_last [] [] a b e = heads a b [] [] e
one_last [] (y ∷ ys) a b e = absurd (omega (arith, ap length e, length-append ys (b ∷ [])))
one_last (x ∷ xs) [] a b e = absurd (omega (arith, ap length e, length-append xs (a ∷ [])))
one_last (x ∷ xs) (y ∷ ys) a b e = one_last xs ys a b (tails x y _ _ e)

long : (s a : List ℕ) (n : ℕ) → n < 2 ^ 16 → 2 ≤ length (file_name s n a)
long s a n small =
    let all : length (file_name s n a) ≡ length (escaped_all s) + suc
    (length (numbered n (fit_text a))) =
    ap length (grouped s a n) ∙ length-append (escaped_all s) (46 ∷ numbered n (fit_text a)) in
    let behind : length (numbered n (fit_text a)) ≡ length (decimal n) + suc (length (fit_text a)) =
    length-append (decimal n) (46 ∷ fit_text a) in
    omega (arith, decimal_nonempty n (wide _ small), all, behind)

pub names_stay : NamesStay
names_stay s n a ss bs small =
    let most = long s a _ small in
    let count = trimmed_len a in
    let ends = ends_more (escaped_all s) _ (ends_more (46 ∷ []) _ (ends_more (decimal n) _
    (ends_more (46 ∷ []) _ (first_ends (count == 0) _ (count - 1) bs)))) in
    record {
      bytes = subst (AllByRecursion MayStand) (sym (grouped s a n)) (all_more _ _
          (46 ∷ numbered n (fit_text a)) (all_each plain_stands _ (set_bytes _ ss)) (
            refl,
            all_more _ _ (46 ∷ fit_text a) (all_each digit_stands _ (digits_are _ (wide _ small)))
                (refl, first_stands (count == 0) _ (count - 1) bs),
          ));
      some = λ e. omega (arith, most, ap length e);
      not_itself = λ e. omega (arith, most, ap length e);
      not_above = λ e. absurd (ends.no_stop (one_last ends.front (46 ∷ []) ends.byte 46
          (sym ends.is ∙ sym (grouped s a n) ∙ e)));
      last = λ front b e.
          let same = one_last ends.front front ends.byte b (sym ends.is ∙ sym (grouped s a n) ∙ e)
          in
          (λ w. ends.no_space (same ∙ w), λ w. ends.no_stop (same ∙ w));
    }

-- ---- devices and lengths

-- the text before a full stop is at least as long as the text without one
at_stop : (p d xs rest : List ℕ) → AllByRecursion (λ b. b ≢ 46) p → p ++ xs ≡ d ++ 46 ∷ rest
    → length p ≤ length d
at_stop [] d xs rest all e = omega arith
at_stop (a ∷ p) [] xs rest (other, all) e = absurd (other (heads a 46 (p ++ xs) rest e))
at_stop (a ∷ p) (c ∷ d) xs rest (other, all) e =
    omega (arith, at_stop p d xs rest all (tails a c (p ++ xs) (d ++ 46 ∷ rest) e))

no_stop_in_set : (b : ℕ) → InSet b → b ≢ 46
no_stop_in_set b is e = grind (arith, nat_tests)

record Within (low high : ℕ) (xs : List ℕ) : Type 0 where
  least : low ≤ length xs
  most : length xs ≤ high

kind_within : (b : ℕ) (plain space : Bool) → Within 1 3 (by_kind plain space b)
kind_within b true space = record { least = omega arith; most = omega arith }
kind_within b false true = record { least = omega arith; most = omega arith }
kind_within b false false = record { least = omega arith; most = omega arith }

set_within : (s : List ℕ) → Within (length s) (3 * length s) (escaped_all s)
set_within [] = record { least = omega arith; most = omega arith }
set_within (b ∷ s) =
    let one = kind_within b (is_plain b) (b == 32) in
    let more = set_within s in
    let all = length-append (escaped b) (escaped_all s) in
    record {
      least = omega (arith, one.least, more.least, all);
      most = omega (arith, one.most, more.most, all);
    }

fit_by_short : (b : ℕ) (kept : Bool) → length (fit_by kept b) ≤ 3
fit_by_short b true = omega arith
fit_by_short b false = omega arith

last_by_short : (b : ℕ) (dropped : Bool) → length (last_by dropped b) ≤ 3
last_by_short b true = omega arith
last_by_short b false = fit_by_short b (is_kept b && not (b == 37))

some_short : (a : List ℕ) (n : ℕ) → length (flat_map fit (take n a)) ≤ 3 * n
some_short a zero = omega arith
some_short [] (suc n) = omega arith
some_short (b ∷ a) (suc n) =
    omega (
      arith,
      length-append (fit b) (flat_map fit (take n a)),
      some_short a n,
      fit_by_short b (is_kept b && not (b == 37)),
    )

first_short : (none : Bool) (a : List ℕ) (n : ℕ) → n ≤ 16 → length (first_by none n a) ≤ 51
first_short true a n le = omega arith
first_short false a n le =
    let b = get_or a n 32 in
    omega (
      arith,
      length-append (flat_map fit (take n a)) (fit_last b),
      some_short a n,
      le,
      last_by_short b ((b == 32) || (b == 46)),
    )

pub names_fit : NamesFit
names_fit s n a ss small six seventeen =
    let set = set_within s in
    let count = trimmed_len a in
    let name = first_short (count == 0) a (count - 1) (omega (arith, seventeen)) in
    let digits = length-decimal-le 5 n (omega arith) (omega (arith, small)) (wide n small) in
    let all = ap length (grouped s a n)
    ∙ length-append (escaped_all s) (46 ∷ numbered n (fit_text a)) in
    let behind = length-append (decimal n) (46 ∷ fit_text a) in
    record {
      short = omega (arith, set.most, name, digits, all, behind, six);
      device = λ d rest e.
          let least = at_stop (escaped_all s) d (46 ∷ numbered n (fit_text a)) rest
          (all_each no_stop_in_set (escaped_all s) (set_bytes s ss))
          (sym (grouped s a n) ∙ e ∙ append_assoc d (46 ∷ []) rest) in
          omega (arith, least, set.least, six);
    }
