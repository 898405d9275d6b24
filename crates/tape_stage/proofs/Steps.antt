-- The meaning of each reading step that does not fail, and conversely the step's result from the
-- text.
use Rattle.std.proofs.Common.{◌≡◌, ℕ, ◌-◌, ◌^◌, ◌<◌, ◌≤◌, Bool, true, false, cond, eqb, List, []}
use Rattle.std.proofs.Common.{◌∷◌, length, get_or, take, drop, replicate, Option, None, Some}
use Rattle.std.proofs.Common.{Result, Ok, Err, refl, sym, subst, rules}
use Rattle.std.proofs.{lemmas.Bool.eqb-true, lemmas.Slice.Eq.bytes_eq-Decides}
use Rattle.std.specs.{Prelude.◌&&◌, Str.bytes_eq, Str.all_ascii_digits}
use Rattle.tape_label.specs.declared.values.Format.TheVariants.{Fixed, Counted, Spanned}
use Rattle.tape_label.specs.declared.values.Format.TheVariants.{Undefined, Variable}
use Rattle.tape_label.specs.Digits.{digits, number_of}
use Rattle.tape_label.specs.{declared.values.Format.Format, Positions.positions}
use Rattle.tape_label.specs.Formats.{is_standard}
use Rattle.tape_label.proofs.DigitLaws.{digits-number_of, number_of-digits, number_of-lt}
use Rattle.tape_label.proofs.DigitLaws.{all_ascii_digits-digits}
use Rattle.tape_label.proofs.Steps.{length-positions, character_found, character_is}
use Rattle.tape_stage.specs.Reading.{◌>>=◌, number_at, flag_at, format_at, tail_at}
use Rattle.tape_stage.specs.{declared.point.text.PointFault.PointFault, Text.format_letter}
use Rattle.tape_stage.specs.declared.point.text.PointFault.TheVariants as faults

-- a step that did not fail, and the steps before it
pub bind_ok : {A B : Type 0} (r : Result A PointFault) (f : A → Result B PointFault) (y : B)
    → (r >>= f) ≡ Ok y → (x : A) × (r ≡ Ok x) × (f x ≡ Ok y)
bind_ok (Ok x) f y e = (x, refl, e)
bind_ok (Err d) f y e = absurd cc

abbrev pub done : {A : Type 0} → A → Result A PointFault
done x = Ok x

pub ok_is : {A : Type 0} (x y : A) → done x ≡ done y → x ≡ y
ok_is x y e = cc

-- a test that did not fail
pub passed : {A : Type 0} (b : Bool) (d : PointFault) (x y : A) → cond b (Ok x) (Err d) ≡ Ok y
    → (b ≡ true) × (x ≡ y)
passed true d x y e = (refl, cc)
passed false d x y e = absurd cc

-- ---- numbers

pub record HasDigits (text : List ℕ) (first last n : ℕ) : Type 0 where
  pub spelled : positions text first last ≡ digits (last - (first - 1)) n
  pub fits : n < 10 ^ (last - (first - 1))

pub number_found : (text : List ℕ) (first last n : ℕ) → last ≤ length text
    → number_at text first last ≡ Ok n → HasDigits text first last n
number_found text first last n fits e =
    let ds = positions text first last in
    let p = passed (all_ascii_digits ds) (faults.Field first) (number_of ds) n e in
    let len = length-positions text first last fits in
    rw (← p.1) record {
      spelled = sym (subst (λ (k : ℕ). digits k (number_of ds) ≡ ds) len (digits-number_of ds p.0));
      fits = subst (λ (k : ℕ). number_of ds < 10 ^ k) len (number_of-lt ds p.0);
    }

pub number_again : (text : List ℕ) (first last n : ℕ) → HasDigits text first last n
    → number_at text first last ≡ Ok n
number_again text first last n h =
    let width = last - (first - 1) in
    let tests : all_ascii_digits (positions text first last) ≡ true =
    rw h.spelled (all_ascii_digits-digits width n) in
    let value : number_of (positions text first last) ≡ n =
    rw h.spelled (number_of-digits width n h.fits) in
    rw (tests, value) refl

-- ---- characters

flag_cases : (c one other : ℕ) (p q : Bool) (d : PointFault) (b : Bool) → eqb c one ≡ p
    → eqb c other ≡ q → cond p (Ok true) (cond q (Ok false) (Err d)) ≡ done b → c ≡ cond b one other
flag_cases c one other true q d true x y e = eqb-true _ _ x
flag_cases c one other true q d false x y e = absurd cc
flag_cases c one other false true d true x y e = absurd cc
flag_cases c one other false true d false x y e = eqb-true _ _ y
flag_cases c one other false false d b x y e = absurd cc

pub flag_found : (text : List ℕ) (position one other : ℕ) (b : Bool) → position - 1 < length text
    → flag_at text position one other ≡ Ok b → take 1 (drop (position - 1) text) ≡ cond b one other
    ∷ []
flag_found text position one other b lt e =
    let c = get_or text (position - 1) 0 in
    rw (← flag_cases c one other _ _ (faults.Field position) b refl refl e)
    (character_found text (position - 1) lt)

same : (n : ℕ) → eqb n n ≡ true
same n = search rules

flag_once : (one other : ℕ) (d : PointFault) (b : Bool) → eqb other one ≡ false
    → cond (eqb (cond b one other) one) (Ok true) (cond (eqb (cond b one other) other) (Ok false)
    (Err d)) ≡ done b
flag_once one other d true apart = rw (same one) refl
flag_once one other d false apart = rw (apart, same other) refl

pub flag_again : (text : List ℕ) (position one other : ℕ) (b : Bool) → position - 1 < length text
    → eqb other one ≡ false → take 1 (drop (position - 1) text) ≡ cond b one other ∷ []
    → flag_at text position one other ≡ Ok b
flag_again text position one other b lt apart e = rw (character_is text
    (position - 1) (cond b one other) lt e) (flag_once one other (faults.Field position) b apart)

-- the formats that a reading accepts
abbrev pub allows : Bool → Option Format → Bool
allows true f = true
allows false None = true
allows false (Some f) = is_standard f

-- the result of the tests of the letter
abbrev format_by : Bool → Bool → Bool → Bool → Bool → Bool → Bool → PointFault
    → Result (Option Format) PointFault
format_by wide p q r u v s d =
    cond p (Ok (Some Fixed)) (cond q (Ok (Some Counted)) (cond r (Ok (Some Spanned))
    (cond (wide && u) (Ok (Some Undefined)) (cond (wide && v) (Ok (Some Variable))
    (cond s (Ok None) (Err d))))))

format_cases : (wide : Bool) (c : ℕ) (p q r u v s : Bool) (d : PointFault) (f : Option Format)
    → eqb c 70 ≡ p → eqb c 68 ≡ q → eqb c 83 ≡ r → eqb c 85 ≡ u → eqb c 86 ≡ v → eqb c 32 ≡ s
    → format_by wide p q r u v s d ≡ done f → c ≡ format_letter f
format_cases wide c true q r u v s d f w x y g h z e =
    rw (← ok_is (Some Fixed) f e) (eqb-true _ _ w)
format_cases wide c false true r u v s d f w x y g h z e =
    rw (← ok_is (Some Counted) f e) (eqb-true _ _ x)
format_cases wide c false false true u v s d f w x y g h z e =
    rw (← ok_is (Some Spanned) f e) (eqb-true _ _ y)
format_cases true c false false false true v s d f w x y g h z e =
    rw (← ok_is (Some Undefined) f e) (eqb-true _ _ g)
format_cases true c false false false false true s d f w x y g h z e =
    rw (← ok_is (Some Variable) f e) (eqb-true _ _ h)
format_cases true c false false false false false true d f w x y g h z e =
    rw (← ok_is None f e) (eqb-true _ _ z)
format_cases true c false false false false false false d f w x y g h z e = absurd cc
format_cases false c false false false u v true d f w x y g h z e =
    rw (← ok_is None f e) (eqb-true _ _ z)
format_cases false c false false false u v false d f w x y g h z e = absurd cc

pub format_found : (wide : Bool) (text : List ℕ) (position : ℕ) (f : Option Format)
    → position - 1 < length text → format_at wide text position ≡ Ok f
    → take 1 (drop (position - 1) text) ≡ format_letter f ∷ []
format_found wide text position f lt e =
    let c = get_or text (position - 1) 0 in
    rw (← format_cases wide c _ _ _ _ _ _ (faults.Field position) f refl
    refl refl refl refl refl e) (character_found text (position - 1) lt)

allowed_cases : (wide p q r u v s : Bool) (d : PointFault) (f : Option Format)
    → format_by wide p q r u v s d ≡ done f → allows wide f ≡ true
allowed_cases true p q r u v s d f e = refl
allowed_cases false true q r u v s d f e = rw (← ok_is (Some Fixed) f e) refl
allowed_cases false false true r u v s d f e = rw (← ok_is (Some Counted) f e) refl
allowed_cases false false false true u v s d f e = rw (← ok_is (Some Spanned) f e) refl
allowed_cases false false false false u v true d f e = rw (← ok_is None f e) refl
allowed_cases false false false false u v false d f e = absurd cc

pub format_allowed : (wide : Bool) (text : List ℕ) (position : ℕ) (f : Option Format)
    → format_at wide text position ≡ Ok f → allows wide f ≡ true
format_allowed wide text position f e =
    allowed_cases wide _ _ _ _ _ _ (faults.Field position) f e

pub format_again : (wide : Bool) (text : List ℕ) (position : ℕ) (f : Option Format)
    → allows wide f ≡ true → position - 1 < length text
    → take 1 (drop (position - 1) text) ≡ format_letter f ∷ [] → format_at wide text position ≡ Ok f
format_again true text position None a lt e = rw (character_is text (position - 1) 32 lt e) refl
format_again false text position None a lt e = rw (character_is text (position - 1) 32 lt e) refl
format_again wide text position (Some Fixed) a lt e =
    rw (character_is text (position - 1) 70 lt e) refl
format_again wide text position (Some Counted) a lt e =
    rw (character_is text (position - 1) 68 lt e) refl
format_again wide text position (Some Spanned) a lt e =
    rw (character_is text (position - 1) 83 lt e) refl
format_again true text position (Some Undefined) a lt e =
    rw (character_is text (position - 1) 85 lt e) refl
format_again true text position (Some Variable) a lt e =
    rw (character_is text (position - 1) 86 lt e) refl
format_again false text position (Some Undefined) a lt e = absurd cc
format_again false text position (Some Variable) a lt e = absurd cc

-- ---- the tail

pub tail_found : (text : List ℕ) (first : ℕ) (u : Unit {0}) → tail_at text first ≡ Ok u
    → drop (first - 1) text ≡ replicate (81 - first) 32
tail_found text first u e = (bytes_eq-Decides (drop (first - 1) text) (replicate (81 - first) 32)).0
    (passed (bytes_eq (drop (first - 1) text) (replicate (81 - first) 32)) (faults.Field first) tt u
    e).0

pub tail_again : (text : List ℕ) (first : ℕ) → drop (first - 1) text ≡ replicate (81 - first) 32
    → tail_at text first ≡ Ok tt
tail_again text first e =
    rw ((bytes_eq-Decides (drop (first - 1) text) (replicate (81 - first) 32)).1 e) refl
