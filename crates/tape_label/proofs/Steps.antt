-- The meaning of each reading step that does not fail, and conversely the step's result from the
-- label.
use Rattle.std.proofs.Common.{◌≡◌, ℕ, ◌-◌, ◌<◌, ◌≤◌, Bool, true, false, cond, ltb, eqb, List, []}
use Rattle.std.proofs.Common.{◌∷◌, length, get_or, take, drop, Result, Ok, Err, refl, arith}
use Rattle.std.proofs.lemmas.Bool.{ltb-false, le-ltb, eqb-true}
use Rattle.std.proofs.lemmas.List.{length-take, length-drop, drop_more}
use Rattle.std.proofs.lemmas.Slice.Eq.{bytes_eq-Decides}
use Rattle.std.specs.{Str.all_ascii_digits, Prelude.IfOk}
use Rattle.tape_label.specs.Reading.{◌>>=◌, eighty, begins_as, of_kind, number_at}
use Rattle.tape_label.specs.{declared.label.LabelFault.LabelFault, declared.values.Kind.Kind}
use Rattle.tape_label.specs.{Kinds.identifier, Positions.positions, Positions.HasNumber}
use Rattle.tape_label.specs.declared.label.LabelFault.TheVariants as faults
use Rattle.tape_label.proofs.DigitLaws.{digits-number_of, number_of-digits, number_of-lt}
use Rattle.tape_label.proofs.DigitLaws.{all_ascii_digits-digits}

-- a step that did not fail, and the steps before it
pub bind_ok : {A B : Type 0} (r : Result A LabelFault) (f : A → Result B LabelFault) (y : B)
    → (r >>= f) ≡ Ok y → (x : A) × (r ≡ Ok x) × (f x ≡ Ok y)
bind_ok (Ok x) f y e = (x, refl, e)
bind_ok (Err d) f y e = absurd cc

-- a test that did not fail
passed : {A : Type 0} (b : Bool) (d : LabelFault) (x y : A) → cond b (Ok x) (Err d) ≡ Ok y
    → (b ≡ true) × (x ≡ y)
passed true d x y e = (refl, cc)
passed false d x y e = absurd cc

abbrev pub done : {A : Type 0} → A → Result A LabelFault
done x = Ok x

pub ok_is : {A : Type 0} (x y : A) → done x ≡ done y → x ≡ y
ok_is x y e = cc

-- a result has a property if the value of its function has it
pub is_found : {A : Type 0} (r : Result A LabelFault) (P : A → Type 0)
    → ((x : A) → r ≡ Ok x → P x) → IfOk r P
is_found (Ok x) P h = h x refl
is_found (Err e) P h = tt

-- ---- numbers and characters

pub length-positions : (label : List ℕ) (first last : ℕ) → last ≤ length label
    → length (positions label first last) ≡ last - (first - 1)
length-positions label first last fits = omega (arith, length-take {A = ℕ}, length-drop {A = ℕ})

passes_number : (digits low : Bool) (d e : LabelFault) (x y : ℕ)
    → cond digits (cond low (Err e) (Ok x)) (Err d) ≡ Ok y
    → (digits ≡ true) × (low ≡ false) × (x ≡ y)
passes_number true true d e x y h = absurd cc
passes_number true false d e x y h = (refl, refl, cc)
passes_number false low d e x y h = absurd cc

pub number_found : (label : List ℕ) (first last least n : ℕ) → last ≤ length label
    → number_at label first last least ≡ Ok n → HasNumber label first last least n
number_found label first last least n fits e =
    grind (arith, passes_number, length-positions, digits-number_of, ltb-false, number_of-lt)

pub number_again : (label : List ℕ) (first last least n : ℕ) → HasNumber label first last least n
    → number_at label first last least ≡ Ok n
number_again label first last least n h =
    grind (arith, all_ascii_digits, all_ascii_digits-digits, number_of-digits, ltb, le-ltb)

pub character_found : (label : List ℕ) (i : ℕ) → i < length label
    → take 1 (drop i label) ≡ get_or label i 0 ∷ []
character_found label i lt = rw (drop_more label i 0 lt) refl

pub character_is : (label : List ℕ) (i c : ℕ) → i < length label → take 1 (drop i label) ≡ c ∷ []
    → get_or label i 0 ≡ c
character_is label i c lt e = let at = character_found label i lt in cc

-- ---- size and identifier

pub size_found : (label : List ℕ) (u : Unit {0}) → eighty label ≡ Ok u → length label ≡ 80
size_found label u e = eqb-true _ _ (passed (eqb (length label) 80) faults.NotEighty tt u e).0

pub size_again : (label : List ℕ) → length label ≡ 80 → eighty label ≡ Ok tt
size_again label size = rw size refl

-- the test of the first four characters
pub begins_found : (label : List ℕ) (kind : Kind) → begins_as label kind ≡ true
    → positions label 1 4 ≡ identifier kind
begins_found label kind e = (bytes_eq-Decides (positions label 1 4) (identifier kind)).0 e

pub named_found : (label : List ℕ) (kind : Kind) (u : Unit {0}) → of_kind label kind ≡ Ok u
    → positions label 1 4 ≡ identifier kind
named_found label kind u e = grind (arith, begins_found, passed)

pub named_again : (label : List ℕ) (kind : Kind) → positions label 1 4 ≡ identifier kind
    → of_kind label kind ≡ Ok tt
named_again label kind named = grind (arith, bytes_eq-Decides)
