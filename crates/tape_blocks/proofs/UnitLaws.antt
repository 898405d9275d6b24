-- The unit found at the start of bytes is the unit encoded there.
use Rattle.std.proofs.Common.{◌≡◌, ℕ, ◌+◌, ◌-◌, ◌/◌, ◌%◌, ◌<◌, ◌≤◌, Bool, true, false, not, cond}
use Rattle.std.proofs.Common.{ltb, eqb, List, [], ◌∷◌, ◌++◌, length, take, drop, Option, Some, None}
use Rattle.std.proofs.Common.{Result, Ok, Err, refl, sym, ap, subst, ◌∙◌, append_assoc, arith}
use Rattle.std.proofs.lemmas.List.{take_at, drop_at, take-append-drop, length-take, length-drop}
use Rattle.std.proofs.{Common.rules, Common.length-append, lemmas.List.drop-drop}
use Rattle.std.proofs.lemmas.Bool.{ltb-false, le-ltb, eqb-true}
use Rattle.std.specs.Str.{all_ascii_digits}
use Rattle.tape_label.specs.declared.values.Format.TheVariants.{Fixed, Counted, Spanned}
use Rattle.tape_label.specs.declared.values.Format.TheVariants.{Undefined, Variable}
use Rattle.tape_label.specs.{Digits.digits, Digits.number_of, declared.values.Format.Format}
use Rattle.tape_label.proofs.DigitLaws.{digits-number_of, number_of-digits, number_of-lt}
use Rattle.tape_label.proofs.DigitLaws.{all_ascii_digits-digits}
use Rattle.tape_blocks.specs.Block.{Portion, indicator, head_len, spelling, IsUnit, first_other}
use Rattle.tape_blocks.specs.{declared.check.BlockFault.BlockFault, Block.span_by, Parts.portion}
use Rattle.tape_blocks.specs.declared.parts.Span.TheVariants.{Whole, First, Middle, Last}
use Rattle.std.specs.Prelude.{max, ◌||◌, ◌&&◌, ◌*◌}
use Rattle.std.proofs.lemmas.Bool.{lt-ltb, ltb-true}
use Rattle.tape_blocks.specs.declared.check.BlockCause.TheVariants.{BadCount, PastEnd, NotMultiple}
use Rattle.tape_blocks.specs.{Block.code, Block.head, Block.span_coded, Faults.fault}
use Rattle.tape_blocks.specs.Units.{padding_by, short_by, counted, spanned, unit_at}
use Rattle.tape_blocks.specs.Units.{described}
use Rattle.tape_blocks.specs.{declared.parts.Span.Span, declared.check.Found.Found}

abbrev pub some : Found → Result (Option Found) BlockFault
some found = Ok (Some found)

abbrev pub none : Result (Option Found) BlockFault
none = Ok None

some_is : (x y : Found) → some x ≡ some y → x ≡ y
some_is x y e = cc

-- the unit found is encoded at the start of the bytes, and its part is one that the format can
-- encode
pub record UnitStands (format : Format) (rec_len : ℕ) (bytes : List ℕ)
    (found : Found) : Type 0 where
  pub whole : bytes ≡ spelling format (portion found bytes) ++ drop found.len bytes
  pub unit : IsUnit format rec_len (portion found bytes)

record CountedCases (span : Span) (h : ℕ) (bytes : List ℕ) (found : Found) : Type 0 where
  room : h ≤ length bytes
  digits_there : all_ascii_digits (take 4 (drop (h - 4) bytes)) ≡ true
  at_least : h ≤ number_of (take 4 (drop (h - 4) bytes))
  at_most : number_of (take 4 (drop (h - 4) bytes)) ≤ length bytes
  found_is : record { span = span; head = h; len = number_of (take 4 (drop (h - 4) bytes)) } ≡ found

tests_passed : (a b c d : Bool) (e f : BlockFault) (x y : Found)
    → cond a (Err e) (cond (not b) (Err e) (cond c (Err e) (cond d (Err f) (some x)))) ≡ some y
    → (a ≡ false) × (b ≡ true) × (c ≡ false) × (d ≡ false) × (x ≡ y)
tests_passed false true false false e f x y h = (refl, refl, refl, refl, some_is x y h)
tests_passed a b c d e f x y h = absurd cc

counted_cases : (span : Span) (h : ℕ) (bytes : List ℕ) (found : Found)
    → counted span h bytes ≡ some found → CountedCases span h bytes found
counted_cases span h bytes found e = grind (arith, tests_passed, ltb, all_ascii_digits, ltb-false)

-- four digits, the bytes that they count after them, and the rest
four_digits : (bytes : List ℕ) (len : ℕ) → 4 ≤ length bytes → all_ascii_digits (take 4 bytes) ≡ true
    → digits 4 (number_of (take 4 bytes)) ≡ take 4 bytes
four_digits bytes len room there = grind (arith, length-take, digits-number_of)

split_at : (bytes : List ℕ) (h len : ℕ) → h ≤ len
    → bytes ≡ take h bytes ++ (take (len - h) (drop h bytes) ++ drop len bytes)
split_at bytes h len le =
    let sum : h + (len - h) ≡ len = omega arith in
    let behind : drop h bytes ≡ take (len - h) (drop h bytes) ++ drop len bytes =
    sym (take-append-drop (len - h) (drop h bytes))
    ∙ ap (λ (r : List ℕ). take (len - h) (drop h bytes) ++ r) (drop-drop (len - h) h bytes
    ∙ ap (λ (k : ℕ). drop k bytes) sum) in
    sym (take-append-drop h bytes) ∙ ap (λ (r : List ℕ). take h bytes ++ r) behind

four_fit : (bytes : List ℕ) → 4 ≤ length bytes → all_ascii_digits (take 4 bytes) ≡ true
    → number_of (take 4 bytes) < 10000
four_fit bytes room there = grind (arith, length-take, number_of-lt)

counted_found : (bytes : List ℕ) (found : Found) → counted Whole 4 bytes ≡ some found
    → (rec_len : ℕ) → UnitStands Counted rec_len bytes found
counted_found bytes found e rec_len =
    let c = counted_cases Whole 4 bytes found e in
    let len = number_of (take 4 bytes) in
    let content = take (len - 4) (drop 4 bytes) in
    let content_len : 4 + length content ≡ len = omega (
      arith,
      length-take (len - 4) (drop 4 bytes),
      length-drop 4 bytes,
      c.at_most,
      c.at_least,
    ) in
    let front : digits 4 (4 + length content) ≡ take 4 bytes =
    ap (digits 4) content_len ∙ four_digits bytes len c.room c.digits_there in
    subst (λ (f : Found). UnitStands Counted rec_len bytes f) c.found_is record {
      whole = split_at bytes 4 len c.at_least
          ∙ sym (ap (λ (d : List ℕ). (d ++ content) ++ drop len bytes) front
          ∙ append_assoc (take 4 bytes) content (drop len bytes));
      unit = (refl, omega (arith, content_len, four_fit bytes c.room c.digits_there));
    }

spanned_found : (b : ℕ) (bytes : List ℕ) (span : Span) (found : Found) → indicator span ≡ b
    → counted span 5 (b ∷ bytes) ≡ some found → (rec_len : ℕ)
    → UnitStands Spanned rec_len (b ∷ bytes) found
spanned_found b bytes span found is e rec_len =
    let c = counted_cases span 5 (b ∷ bytes) found e in
    let len = number_of (take 4 bytes) in
    let content = take (len - 5) (drop 4 bytes) in
    let room : 4 ≤ length bytes = omega (arith, c.room) in
    let content_len : 5 + length content ≡ len = omega (
      arith,
      length-take (len - 5) (drop 4 bytes),
      length-drop 4 bytes,
      c.at_most,
      c.at_least,
    ) in
    let front : digits 4 (5 + length content) ≡ take 4 bytes =
    ap (digits 4) content_len ∙ four_digits bytes len room c.digits_there in
    let split = split_at (b ∷ bytes) 5 len c.at_least in
    let spelled : (b ∷ take 4 bytes) ++ (content ++ drop len (b ∷ bytes))
    ≡ ((indicator span ∷ digits 4 (5 + length content)) ++ content) ++ drop len (b ∷ bytes) =
    sym (ap (λ (d : List ℕ). ((indicator span ∷ d) ++ content) ++ drop len (b ∷ bytes)) front
    ∙ ap (λ (i : ℕ). ((i ∷ take 4 bytes) ++ content) ++ drop len (b ∷ bytes)) is
    ∙ append_assoc (b ∷ take 4 bytes) content (drop len (b ∷ bytes))) in
    subst (λ (f : Found). UnitStands Spanned rec_len (b ∷ bytes) f) c.found_is record {
      whole = split ∙ spelled;
      unit = omega (arith, content_len, four_fit bytes room c.digits_there);
    }

span_is : (c : ℕ) (one two three four : Bool) (s : Span) → eqb c 48 ≡ one → eqb c 49 ≡ two
    → eqb c 50 ≡ three → eqb c 51 ≡ four
    → cond one (Some Whole) (cond two (Some First)
    (cond three (Some Middle) (cond four (Some Last) None))) ≡ Some s → indicator s ≡ c
span_is c true two three four s p q r t e = grind (arith, eqb-true)
span_is c false true three four s p q r t e = grind (arith, eqb-true)
span_is c false false true four s p q r t e = grind (arith, eqb-true)
span_is c false false false true s p q r t e = grind (arith, eqb-true)
span_is c false false false false s p q r t e = absurd cc

spanned_by : (o : Option Span) (b : ℕ) (bytes : List ℕ) (found : Found)
    → ((s : Span) → o ≡ Some s → indicator s ≡ b) → spanned o (b ∷ bytes) ≡ some found
    → (rec_len : ℕ) → UnitStands Spanned rec_len (b ∷ bytes) found
spanned_by None b bytes found is e rec_len = absurd cc
spanned_by (Some s) b bytes found is e rec_len = spanned_found b bytes s found (is s refl) e rec_len

fixed_cases : (b : Bool) (o : Option ℕ) (x y : Found) → cond b (short_by o) (some x) ≡ some y
    → (b ≡ false) × (x ≡ y)
fixed_cases true None x y e = absurd cc
fixed_cases true (Some n) x y e = absurd cc
fixed_cases false o x y e = (refl, some_is x y e)

not_padding : (b : Bool) (o : Option ℕ) (r : Result (Option Found) BlockFault) (y : Found)
    → cond b (padding_by o) r ≡ some y → r ≡ some y
not_padding true None r y e = absurd cc
not_padding true (Some n) r y e = absurd cc
not_padding false o r y e = e

fixed_found : (rec_len : ℕ) (bytes : List ℕ) → rec_len ≤ length bytes
    → UnitStands Fixed rec_len bytes (record { span = Whole; head = 0; len = rec_len })
fixed_found rec_len bytes le = grind (arith, take-append-drop, length-take)

own_cases : (b : Bool) (f : BlockFault) (x y : Found) → cond b (Err f) (some x) ≡ some y
    → (b ≡ false) × (x ≡ y)
own_cases true f x y e = absurd cc
own_cases false f x y e = (refl, some_is x y e)

own_found : (rec_len : ℕ) (bytes : List ℕ) → max 1 rec_len ≤ length bytes
    → UnitStands Undefined rec_len bytes (record { span = Whole; head = 0; len = max 1 rec_len })
own_found rec_len bytes le =
    let u = fixed_found (max 1 rec_len) bytes le in record { whole = u.whole; unit = u.unit }

span_code : (c l : ℕ) (z one two three four : Bool) (s : Span) → eqb l 0 ≡ z → eqb c 0 ≡ one
    → eqb c 1 ≡ two → eqb c 2 ≡ three → eqb c 3 ≡ four
    → cond (not z) None (cond one (Some Whole) (cond two (Some First)
    (cond three (Some Last) (cond four (Some Middle) None)))) ≡ Some s → (code s ≡ c) × (l ≡ 0)
span_code c l false one two three four s o p q r t e = absurd cc
span_code c l true true two three four s o p q r t e = grind (arith, eqb-true)
span_code c l true false true three four s o p q r t e = grind (arith, eqb-true)
span_code c l true false false true four s o p q r t e = grind (arith, eqb-true)
span_code c l true false false false true s o p q r t e = grind (arith, eqb-true)
span_code c l true false false false false s o p q r t e = absurd cc

described_cases : (o : Option Span) (len : ℕ) (bytes : List ℕ) (found : Found) (a b : Bool)
    → ltb len 4 ≡ a → ltb (length bytes) len ≡ b → described o len bytes ≡ some found
    → (s : Span) × (o ≡ Some s) × (4 ≤ len) × (len ≤ length bytes)
    × (record { span = s; head = 4; len = len } ≡ found)
described_cases None len bytes found a b p q e = absurd cc
described_cases (Some s) len bytes found true b p q e =
    let z : described (Some s) len bytes ≡ Err (fault 0 BadCount) = rw p refl in absurd cc
described_cases (Some s) len bytes found false true p q e =
    let z : described (Some s) len bytes ≡ Err (fault 0 PastEnd) = rw (p, q) refl in absurd cc
described_cases (Some s) len bytes found false false p q e =
    let z : described (Some s) len bytes ≡ some (record { span = s; head = 4; len = len }) =
    rw (p, q) refl in (
      s,
      refl,
      ltb-false _ _ p,
      ltb-false _ _ q,
      some_is _ found (sym z ∙ e),
    )

word_pair : (a b : ℕ) → b < 256 → ((a * 256 + b) / 256 ≡ a) × ((a * 256 + b) % 256 ≡ b)
word_pair a b lt = (omega arith, omega arith)

word_case : (short one two : Bool) (r : Result (Option Found) BlockFault) (f : BlockFault)
    (y : Found) → cond (short || not (one && two)) (Err f) r ≡ some y
    → (one ≡ true) × (two ≡ true) × (r ≡ some y)
word_case true one two r f y e = absurd cc
word_case false true true r f y e = (refl, refl, e)
word_case false true false r f y e = absurd cc
word_case false false two r f y e = absurd cc

word_found : (a b c d : ℕ) (rest : List ℕ) (found : Found) → b < 256 → a < 256
    → described (span_coded c d) (a * 256 + b) (a ∷ b ∷ c ∷ d ∷ rest) ≡ some found
    → (rec_len : ℕ) → UnitStands Variable rec_len (a ∷ b ∷ c ∷ d ∷ rest) found
word_found a b c d rest found lt less e rec_len =
    let bytes = a ∷ b ∷ c ∷ d ∷ rest in
    let len = a * 256 + b in
    let k = described_cases (span_coded c d) len bytes found _ _ refl refl e in
    let s = k.0 in
    let is = span_code c d _ _ _ _ _ s refl refl refl refl refl k.1 in
    let content = take (len - 4) rest in
    let content_len : 4 + length content ≡ len =
    omega (arith, length-take (len - 4) rest, k.2, k.3) in
    let pair = word_pair a b lt in
    let high : (4 + length content) / 256 ≡ a = ap (λ (n : ℕ). n / 256) content_len ∙ pair.0 in
    let low : (4 + length content) % 256 ≡ b = ap (λ (n : ℕ). n % 256) content_len ∙ pair.1 in
    let front : head Variable (record { span = s; bytes = content }) ≡ a ∷ b ∷ c ∷ d ∷ [] =
    rw (high, low, is.0, is.1) refl in
    subst (λ (f : Found). UnitStands Variable rec_len bytes f) k.4 record {
      whole = split_at bytes 4 len k.2
          ∙ sym (ap (λ (h : List ℕ). (h ++ content) ++ drop len bytes) front
          ∙ append_assoc (a ∷ b ∷ c ∷ d ∷ []) content (drop len bytes));
      unit = omega (arith, content_len);
    }

pub unit_found : (format : Format) (rec_len : ℕ) (bytes : List ℕ) (found : Found)
    → unit_at format rec_len bytes ≡ Ok (Some found) → UnitStands format rec_len bytes found
unfolding unit_at
unit_found Fixed rec_len bytes found e =
    let p = fixed_cases (ltb (length bytes) rec_len) (first_other bytes)
    (record { span = Whole; head = 0; len = rec_len }) found e in
    subst (λ (f : Found). UnitStands Fixed rec_len bytes f) p.1
    (fixed_found rec_len bytes (ltb-false _ _ p.0))
unit_found Counted rec_len [] found e = absurd cc
unit_found Counted rec_len (c ∷ cs) found e = search (arith, tt, counted_found, not_padding)
unit_found Undefined rec_len [] found e = absurd cc
unit_found Undefined rec_len (c ∷ cs) found e =
    let p = own_cases (ltb (length (c ∷ cs)) (max 1 rec_len)) (fault 0 NotMultiple)
    (record { span = Whole; head = 0; len = max 1 rec_len }) found e in
    subst (λ (f : Found). UnitStands Undefined rec_len (c ∷ cs) f) p.1
    (own_found rec_len (c ∷ cs) (ltb-false _ _ p.0))
unit_found Variable rec_len [] found e = absurd cc
unit_found Variable rec_len (a ∷ []) found e = absurd cc
unit_found Variable rec_len (a ∷ b ∷ []) found e = absurd cc
unit_found Variable rec_len (a ∷ b ∷ c ∷ []) found e = absurd cc
unit_found Variable rec_len (a ∷ b ∷ c ∷ d ∷ rest) found e =
    let bytes = a ∷ b ∷ c ∷ d ∷ rest in
    let p = word_case (ltb (length bytes) 4) (ltb a 256) (ltb b 256)
    (described (span_coded c d) (a * 256 + b) bytes) (fault 0 BadCount) found e in
    word_found a b c d rest found (ltb-true _ _ p.1) (ltb-true _ _ p.0) p.2 rec_len
unit_found Spanned rec_len [] found e = absurd cc
unit_found Spanned rec_len (c ∷ cs) found e = search (arith, spanned_by, span_is, eqb, not_padding)

-- ---- a unit that is encoded

counted_again : (span : Span) (h k : ℕ) (bytes : List ℕ) → h ≤ length bytes
    → take 4 (drop (h - 4) bytes) ≡ digits 4 k → k < 10000 → h ≤ k → k ≤ length bytes
    → counted span h bytes ≡ some (record { span = span; head = h; len = k })
counted_again span h k bytes room ds small least most =
    let there : all_ascii_digits (take 4 (drop (h - 4) bytes)) ≡ true =
    rw ds (all_ascii_digits-digits 4 k) in
    let value : number_of (take 4 (drop (h - 4) bytes)) ≡ k = rw ds (number_of-digits 4 k small) in
    rw (le-ltb _ _ room, there, value, le-ltb _ _ least, le-ltb _ _ most) refl

-- the result of a step at the unit of a part
abbrev pub found_of : Format → Portion → Found
found_of format p =
    record { span = p.span; head = head_len format; len = head_len format + length p.bytes }

no_circumflex : (n : ℕ) → n < 10 → eqb (48 + n) 94 ≡ false
no_circumflex n lt = search rules

indicator_no_circumflex : (s : Span) → eqb (indicator s) 94 ≡ false
indicator_no_circumflex Whole = refl
indicator_no_circumflex First = refl
indicator_no_circumflex Middle = refl
indicator_no_circumflex Last = refl

span_by-indicator : (s : Span) → span_by (indicator s) ≡ Some s
span_by-indicator Whole = refl
span_by-indicator First = refl
span_by-indicator Middle = refl
span_by-indicator Last = refl

span_coded-code : (s : Span) → span_coded (code s) 0 ≡ Some s
span_coded-code Whole = refl
span_coded-code First = refl
span_coded-code Middle = refl
span_coded-code Last = refl

own_again : (bytes : List ℕ) (rec_len : ℕ) (p : Portion) (rest : List ℕ)
    → IsUnit Undefined rec_len p → bytes ≡ p.bytes ++ rest
    → unit_at Undefined rec_len bytes ≡ Ok (Some (record {
      span = p.span;
      head = 0;
      len = 0 + length p.bytes;
    }))
unfolding unit_at
own_again [] rec_len p rest is e =
    absurd (omega (arith, is.1, ap length e, length-append p.bytes rest))
own_again (c ∷ cs) rec_len p rest is e =
    let le : max 1 rec_len ≤ length (c ∷ cs) =
    omega (arith, is.1, ap length e, length-append p.bytes rest) in
    let n : 0 + length p.bytes ≡ max 1 rec_len = omega (arith, is.1) in
    rw (le-ltb _ _ le, is.0, n) refl

pub unit_again : (format : Format) (rec_len : ℕ) (p : Portion) (rest : List ℕ)
    → IsUnit format rec_len p
    → unit_at format rec_len (spelling format p ++ rest) ≡ Ok (Some (found_of format p))
unfolding unit_at
unit_again Fixed rec_len p rest is = grind (arith, ltb, le-ltb, length-append)
unit_again Counted rec_len p rest is =
    let k = 4 + length p.bytes in
    let first : eqb (48 + k / 10 / 10 / 10 % 10) 94 ≡ false =
    no_circumflex (k / 10 / 10 / 10 % 10) (omega arith) in
    let bytes : List ℕ = spelling Counted p ++ rest in
    rw (
      first,
      counted_again Whole 4 k bytes (omega (arith, length-append p.bytes rest)) refl is.1
          (omega arith) (omega (arith, length-append p.bytes rest)),
      is.0,
    ) refl
unit_again Undefined rec_len p rest is = own_again (p.bytes ++ rest) rec_len p rest is refl
unit_again Variable rec_len p rest is =
    let n = 4 + length p.bytes in
    let bytes : List ℕ = spelling Variable p ++ rest in
    let low : ltb (n % 256) 256 ≡ true = lt-ltb _ _ (omega arith) in
    let high : ltb (n / 256) 256 ≡ true = lt-ltb _ _ (omega (arith, is)) in
    let whole : n / 256 * 256 + n % 256 ≡ n = omega arith in
    rw (
      high,
      low,
      span_coded-code p.span,
      whole,
      le-ltb (length bytes) 4 (omega (arith, length-append p.bytes rest)),
      le-ltb n 4 (omega arith),
      le-ltb (length bytes) n (omega (arith, length-append p.bytes rest)),
    ) refl
unit_again Spanned rec_len p rest is =
    let k = 5 + length p.bytes in
    let bytes : List ℕ = spelling Spanned p ++ rest in
    rw (
      indicator_no_circumflex p.span,
      span_by-indicator p.span,
      counted_again p.span 5 k bytes (omega (arith, length-append p.bytes rest)) refl is
          (omega arith) (omega (arith, length-append p.bytes rest)),
    ) refl

pub portion_of : (format : Format) (p : Portion) (rest : List ℕ)
    → portion (found_of format p) (spelling format p ++ rest) ≡ p
portion_of Fixed p rest = grind (arith, take_at)
portion_of Counted p rest = grind (arith, take_at)
portion_of Spanned p rest = grind (arith, take_at)
portion_of Undefined p rest = grind (arith, take_at)
portion_of Variable p rest = grind (arith, take_at)

pub length-spelling : (format : Format) (p : Portion)
    → length (spelling format p) ≡ head_len format + length p.bytes
length-spelling Fixed p = omega arith
length-spelling Counted p = omega arith
length-spelling Spanned p = omega arith
length-spelling Undefined p = omega arith
length-spelling Variable p = omega arith

pub rest_of : (format : Format) (p : Portion) (rest : List ℕ)
    → drop (head_len format + length p.bytes) (spelling format p ++ rest) ≡ rest
rest_of format p rest = grind (arith, drop_at, length-spelling)
