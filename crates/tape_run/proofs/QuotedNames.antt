-- Names as they are printed: no character is hidden, and different names are printed differently.
use Rattle.std.proofs.Common.{◌≡◌, ◌≢◌, ℕ, ◌+◌, ◌*◌, ◌/◌, ◌%◌, ◌<◌, Bool, true, false, List, []}
use Rattle.std.proofs.Common.{◌∷◌, ◌++◌, refl, sym, ap, subst, ◌∙◌, arith, chars, encode_utf8_all}
use Rattle.std.proofs.Common.{length, ◌==◌, ◌&&◌, if◌then◌else◌, flat_map}
use Rattle.std.specs.List.{AllByRecursion}
use Rattle.std.proofs.Math.Utf8.{scalar, scalars, low_scalar}
use Rattle.std.proofs.lemmas.{Bool.and_parts, Bool.Decides.nat_tests}
use Rattle.std.proofs.lemmas.Nat.{div-add-mod', mod_below, div_below}
use Rattle.std.proofs.lemmas.Str.{encodes-chars, chars-encodes, encodes_same, scalars-chars}
use Rattle.tape_run.specs.Quoting.{hex, is_hidden, quoted}
use Rattle.tape_run.specs.QuotingLaws.{NamesShow, NamesTellApart, NamesKeep}
use Rattle.tape_run.proofs.UnpackedNames.{Split, all_more, heads, hex_one, tails}

-- the text of a character, by whether it is `\` and whether it is hidden
abbrev by_kind : Bool → Bool → ℕ → List ℕ
by_kind back hidden c =
    if back then 92 ∷ 92 ∷ []
    else if hidden then
    92 ∷ 117 ∷ hex (c / 16 / 16 / 16) ∷ hex (c / 16 / 16 % 16) ∷ hex (c / 16 % 16) ∷ hex (c % 16)
    ∷ []
    else c ∷ []

low : (n : ℕ) → n % 16 < 16
low n = mod_below n 16 (omega arith)

-- the first of the four digits
high : (c : ℕ) → is_hidden c ≡ true → c / 16 / 16 / 16 < 16
high c is =
    let small : c < 65536 = grind (arith, nat_tests) in
    div_below (c / 16 / 16) 16 16 (omega arith)
    (div_below (c / 16) 16 256 (omega arith)
    (div_below c 16 4096 (omega arith) (omega (arith, small))))

-- ---- nothing is hidden

abbrev Shows : ℕ → Type 0
Shows c = (is_hidden c ≡ false) × (scalar c ≡ true)

hex_shows : (n : ℕ) → n < 16 → Shows (hex n)
hex_shows n small = (
  grind (arith, nat_tests),
  low_scalar (hex n) (let h : hex n < 128 = grind (arith, nat_tests) in
      omega (arith, h)),
)

kind_shows : (c : ℕ) → scalar c ≡ true → (back hidden : Bool) → (c == 92) ≡ back
    → is_hidden c ≡ hidden → AllByRecursion Shows (by_kind back hidden c)
kind_shows c s true hidden b is = ((refl, refl), ((refl, refl), tt))
kind_shows c s false true b is = (
  (refl, refl),
  (
    (refl, refl),
    (
      hex_shows _ (high c is),
      (
        hex_shows _ (low (c / 16 / 16)),
        (
          hex_shows _ (low (c / 16)),
          (hex_shows _ (low c), tt),
        ),
      ),
    ),
  ),
)
kind_shows c s false false b is = ((is, s), tt)

all_show : (cs : List ℕ) → scalars cs ≡ true → AllByRecursion Shows (flat_map quoted cs)
all_show [] s = tt
all_show (c ∷ cs) s =
    let parts = and_parts _ _ s in
    all_more _ _ _ (kind_shows _ parts.0 (c == 92) (is_hidden c) refl refl) (all_show cs parts.1)

are_scalars : (cs : List ℕ) → AllByRecursion Shows cs → scalars cs ≡ true
are_scalars [] all = refl
are_scalars (c ∷ cs) ((_, one), all) = ap (λ b. b && scalars cs) one ∙ are_scalars cs all

none_hidden : (cs : List ℕ) → AllByRecursion Shows cs → AllByRecursion (λ c. is_hidden c ≡ false) cs
none_hidden [] all = tt
none_hidden (c ∷ cs) ((one, _), all) = (one, none_hidden cs all)

pub names_show : NamesShow
names_show name is =
    let all = all_show (chars name) (scalars-chars name is) in
    subst (AllByRecursion (λ c. is_hidden c ≡ false))
    (sym (chars-encodes (flat_map quoted (chars name)) (are_scalars _ all)))
    (none_hidden (flat_map quoted (chars name)) all)

-- ---- different names have different texts

by_digit : (a b : ℕ) → a / 16 ≡ b / 16 → hex (a % 16) ≡ hex (b % 16) → a ≡ b
by_digit a b front digit =
    sym (div-add-mod' a 16) ∙ ap (λ h. h * 16 + a % 16) front ∙ ap (λ l. b / 16 * 16 + l)
    (hex_one _ _ (low a) (low b) digit) ∙ div-add-mod' b 16

-- two hidden characters
split_hidden : (a b : ℕ) (xs ys : List ℕ) → is_hidden a ≡ true → is_hidden b ≡ true
    → by_kind false true a ++ xs ≡ by_kind false true b ++ ys → Split a b xs ys
split_hidden a b xs ys ha hb e = grind (arith, tails, hex_one, high, heads, by_digit)

split_by : (a b : ℕ) (xs ys : List ℕ) → (p q u v : Bool) → (a == 92) ≡ p → (b == 92) ≡ q
    → is_hidden a ≡ u → is_hidden b ≡ v → by_kind p u a ++ xs ≡ by_kind q v b ++ ys
    → Split a b xs ys
split_by a b xs ys true true u v pa pb ha hb e = record {
  same = grind (arith, nat_tests);
  rest = tails _ _ _ _ (tails _ _ _ _ e);
}
split_by a b xs ys true false u true pa pb ha hb e =
    absurd (let h : 92 ≡ 117 = heads _ _ _ _ (tails _ _ _ _ e) in omega (arith, h))
split_by a b xs ys true false u false pa pb ha hb e =
    absurd (let h : 92 ≡ b = heads _ _ _ _ e in grind (arith, nat_tests))
split_by a b xs ys false true true v pa pb ha hb e =
    absurd (let h : 117 ≡ 92 = heads _ _ _ _ (tails _ _ _ _ e) in omega (arith, h))
split_by a b xs ys false true false v pa pb ha hb e =
    absurd (let h : a ≡ 92 = heads _ _ _ _ e in grind (arith, nat_tests))
split_by a b xs ys false false true true pa pb ha hb e = split_hidden a b xs ys ha hb e
split_by a b xs ys false false true false pa pb ha hb e =
    absurd (let h : 92 ≡ b = heads _ _ _ _ e in grind (arith, nat_tests))
split_by a b xs ys false false false true pa pb ha hb e =
    absurd (let h : a ≡ 92 = heads _ _ _ _ e in grind (arith, nat_tests))
split_by a b xs ys false false false false pa pb ha hb e = record {
  same = heads _ _ _ _ e;
  rest = tails _ _ _ _ e;
}

split_one : (a b : ℕ) (xs ys : List ℕ) → quoted a ++ xs ≡ quoted b ++ ys → Split a b xs ys
split_one a b xs ys e = split_by _ _ _ _ _ _ _ _ refl refl refl refl e

-- the text of a character is not empty
some_by : (c : ℕ) (xs : List ℕ) (back hidden : Bool) → by_kind back hidden c ++ xs ≢ []
some_by c xs true hidden e = absurd (omega (arith, ap length e))
some_by c xs false true e = absurd (omega (arith, ap length e))
some_by c xs false false e = absurd (omega (arith, ap length e))

same_names : (cs ds : List ℕ) → flat_map quoted cs ≡ flat_map quoted ds → cs ≡ ds
same_names [] [] e = refl
same_names [] (d ∷ ds) e = absurd (some_by d (flat_map quoted ds) (d == 92) (is_hidden d) (sym e))
same_names (c ∷ cs) [] e = absurd (some_by c (flat_map quoted cs) (c == 92) (is_hidden c) e)
same_names (c ∷ cs) (d ∷ ds) e =
    let one = split_one c d (flat_map quoted cs) (flat_map quoted ds) e in
    ap (λ x. x ∷ cs) one.same ∙ ap (λ xs. d ∷ xs) (same_names cs ds one.rest)

pub names_tell_apart : NamesTellApart
names_tell_apart a b ua ub e =
    let same = same_names (chars a) (chars b)
    (encodes_same (flat_map quoted (chars a)) (flat_map quoted (chars b)) e) in
    sym (encodes-chars a ua) ∙ ap encode_utf8_all same ∙ encodes-chars b ub

-- ---- others are kept

kept_by : (c : ℕ) → (back hidden : Bool) → (c == 92) ≡ back → is_hidden c ≡ hidden
    → is_hidden c ≡ false → c ≢ 92 → by_kind back hidden c ≡ c ∷ []
kept_by c true hidden b h shown other = absurd (other (grind (arith, nat_tests)))
kept_by c false true b h shown other = absurd (let e : true ≡ false = sym h ∙ shown in cc e)
kept_by c false false b h shown other = refl

all_kept : (cs : List ℕ) → AllByRecursion (λ c. (is_hidden c ≡ false) × (c ≢ 92)) cs
    → flat_map quoted cs ≡ cs
all_kept [] all = refl
all_kept (c ∷ cs) ((shown, other), all) =
    ap (λ l. l ++ flat_map quoted cs) (kept_by _ (c == 92) (is_hidden c) refl refl shown other) ∙ ap
    (λ l. c ∷ l) (all_kept cs all)

pub names_keep : NamesKeep
names_keep name is all = ap encode_utf8_all (all_kept _ all) ∙ encodes-chars name is
