-- Records in EBCDIC, translated while they are written.
use Rattle.std.proofs.Common.{◌≡◌, ℕ, zero, suc, ◌+◌, ◌-◌, ◌*◌, ◌/◌, ◌%◌, ◌<◌, ◌≤◌, ◌==◌, min, false}
use Rattle.std.proofs.Common.{List, [], ◌∷◌, ◌++◌, Some, None, Option, refl, sym, ap, ◌∙◌, append-nil}
use Rattle.std.proofs.Common.{append_assoc, length, map, take, arith, subst}
use Rattle.std.specs.Io.KnownBytes.{Appends}
use Rattle.std.proofs.lemmas.{Bool.Decides.nat_tests, List.length-take-le}
use Rattle.std.proofs.KnownBytes.{Appends-trans}
use Rattle.tape_core.specs.NormalForm.Codes.{to_ascii}
use Rattle.tape_blocks.specs.{Block.Portion, Spans.join, CountedForm.length_bytes}
use Rattle.tape_blocks.specs.declared.parts.Form.{Form}
use Rattle.tape_blocks.specs.declared.parts.Form.TheVariants.{Counted}
use Rattle.tape_run.specs.RecordText.{record_head, record_end, record_text, records_text}
use Rattle.tape_run.specs.Translating.{number_of, number_at, due_end, spelled, left_after, IsTaken}
use Rattle.tape_run.specs.Translating.{TranslatesRecords, TranslatesInTurn}

later : (form : Form) (left : ℕ) → due_end form (suc left) ≡ []
later form left = let z : (suc left == 0) ≡ false = grind (arith, nat_tests) in rw z refl

-- ---- in two goes

pub in_turn : TranslatesInTurn
in_turn form zero middle [] ys e =
    let same : zero ≡ middle = cc in ap (λ (n : ℕ). spelled form n ys) same
in_turn form (suc left) middle [] ys e =
    let same : suc left ≡ middle = cc in ap (λ (n : ℕ). spelled form n ys) same
in_turn form (suc left) middle (b ∷ bytes) ys e =
    ap (λ t. to_ascii b ∷ (due_end form left ++ t)) (in_turn form left middle bytes ys e)
    ∙ ap (λ t. to_ascii b ∷ t)
    (sym (append_assoc (due_end form left) (spelled form left bytes) (spelled form middle ys)))
in_turn form zero middle (a ∷ b ∷ c ∷ d ∷ bytes) ys e =
    let n : ℕ = number_of a b c d in
    ap (λ t. record_head form n ++ (due_end form n ++ t)) (in_turn form n middle bytes ys e)
    ∙ ap (λ t. record_head form n ++ t)
    (sym (append_assoc (due_end form n) (spelled form n bytes) (spelled form middle ys)))
    ∙ sym (append_assoc (record_head form n) (due_end form n ++ spelled form n bytes)
    (spelled form middle ys))
in_turn form zero middle (a ∷ []) ys e = absurd cc
in_turn form zero middle (a ∷ b ∷ []) ys e = absurd cc
in_turn form zero middle (a ∷ b ∷ c ∷ []) ys e = absurd cc

-- ---- records

four : (n : ℕ) → number_of (n / 16777216) (n / 65536 % 256) (n / 256 % 256) (n % 256) ≡ n
four n = omega arith

-- the rest of a record, and what follows it
rest_spelled : (form : Form) (r bytes : List ℕ)
    → due_end form (length r) ++ spelled form (length r) (r ++ bytes)
    ≡ map to_ascii r ++ (record_end form ++ spelled form zero bytes)
rest_spelled form [] bytes = refl
rest_spelled form (b ∷ r) bytes =
    ap (λ t. t ++ spelled form (suc (length r)) (b ∷ (r ++ bytes))) (later form (length r))
    ∙ ap (λ t. to_ascii b ∷ t) (rest_spelled form r bytes)

same_length : (r : List ℕ) → length r ≡ length (map to_ascii r)
same_length [] = refl
same_length (b ∷ r) = ap suc (same_length r)

-- a record, and what follows it
one_spelled : (form : Form) (r bytes : List ℕ)
    → spelled form zero (record_text Counted r ++ bytes)
    ≡ record_text form (map to_ascii r) ++ spelled form zero bytes
one_spelled form r bytes =
    let head : List ℕ → List ℕ = λ t. record_head form (length r) ++ t in
    let text : List ℕ = map to_ascii r in
    let plain : (r ++ []) ++ bytes ≡ r ++ bytes = ap (λ t. t ++ bytes) (append-nil r) in
    ap (λ (n : ℕ). record_head form n ++ (due_end form n ++ spelled form n ((r ++ []) ++ bytes)))
    (four (length r))
    ∙ ap (λ t. head (due_end form (length r) ++ spelled form (length r) t)) plain
    ∙ ap head (rest_spelled form r bytes)
    ∙ ap head (sym (append_assoc text (record_end form) (spelled form zero bytes)))
    ∙ sym (append_assoc (record_head form (length r)) (text ++ record_end form)
    (spelled form zero bytes))
    ∙ ap (λ (n : ℕ). (record_head form n ++ (text ++ record_end form)) ++ spelled form zero bytes)
    (same_length r)

all_spelled : (form : Form) (rs : List (List ℕ))
    → spelled form zero (records_text Counted rs) ≡ records_text form (map (map to_ascii) rs)
all_spelled form [] = refl
all_spelled form (r ∷ rs) = one_spelled form r (records_text Counted rs)
    ∙ ap (λ t. record_text form (map to_ascii r) ++ t) (all_spelled form rs)

pub records_spelled : TranslatesRecords
records_spelled form parts = all_spelled form (join parts).records

-- ---- one call

-- the length of a record
length_spelled : (form : Form) (xs : List ℕ) → 4 ≤ length xs
    → spelled form zero (take 4 xs)
    ≡ record_head form (number_at xs) ++ due_end form (number_at xs)
length_spelled form (a ∷ b ∷ c ∷ d ∷ xs) h =
    ap (λ t. record_head form (number_of a b c d) ++ t)
    (ap (λ t. due_end form (number_of a b c d) ++ t) (none form (number_of a b c d))
    ∙ append-nil (due_end form (number_of a b c d)))
  where
    none : (form : Form) (n : ℕ) → spelled form n [] ≡ []
    none form zero = refl
    none form (suc n) = refl
length_spelled form [] h = absurd (omega (arith, h))
length_spelled form (a ∷ []) h = absurd (omega (arith, h))
length_spelled form (a ∷ b ∷ []) h = absurd (omega (arith, h))
length_spelled form (a ∷ b ∷ c ∷ []) h = absurd (omega (arith, h))

length_left : (xs : List ℕ) → 4 ≤ length xs → left_after zero (take 4 xs) ≡ Some (number_at xs)
length_left (a ∷ b ∷ c ∷ d ∷ xs) h = none (number_of a b c d)
  where
    none : (n : ℕ) → left_after n [] ≡ Some n
    none zero = refl
    none (suc n) = refl
length_left [] h = absurd (omega (arith, h))
length_left (a ∷ []) h = absurd (omega (arith, h))
length_left (a ∷ b ∷ []) h = absurd (omega (arith, h))
length_left (a ∷ b ∷ c ∷ []) h = absurd (omega (arith, h))

pub length_taken : (form : Form) (xs : List ℕ) (n : ℕ) (old mid new : Option (List ℕ))
    → 4 ≤ length xs → n ≡ number_at xs → Appends old mid (record_head form n)
    → Appends mid new (due_end form n) → IsTaken (Some form) zero (take 4 xs) old new n
length_taken form xs n old mid new h e head end = (
  subst (Appends old new) (sym (length_spelled form xs h
      ∙ ap (λ (n : ℕ). record_head form n ++ due_end form n) (sym e)))
      (Appends-trans old mid new _ _ head end),
  length_left xs h ∙ ap (λ (n : ℕ). Some n) (sym e),
)

-- bytes of a record
none_due : (form : Form) (left : ℕ) → 0 < left → due_end form left ≡ []
none_due form zero h = absurd (omega (arith, h))
none_due form (suc left) h = later form left

bytes_spelled : (form : Form) (xs : List ℕ) (left rest : ℕ) → left ≡ length xs + rest → 0 < left
    → spelled form left xs ≡ map to_ascii xs ++ due_end form rest
bytes_spelled form xs zero rest e h = absurd (omega (arith, h))
bytes_spelled form [] (suc left) rest e h =
    let due : 0 < rest = omega (arith, e) in sym (none_due form rest due)
bytes_spelled form (b ∷ []) (suc left) rest e h =
    let same : left ≡ rest = omega (arith, e) in
    ap (λ t. to_ascii b ∷ (due_end form left ++ t)) (none form left)
    ∙ ap (λ t. to_ascii b ∷ t) (append-nil (due_end form left))
    ∙ ap (λ (n : ℕ). to_ascii b ∷ due_end form n) same
  where
    none : (form : Form) (n : ℕ) → spelled form n [] ≡ []
    none form zero = refl
    none form (suc n) = refl
bytes_spelled form (b ∷ c ∷ xs) (suc left) rest e h =
    let long : left ≡ length (c ∷ xs) + rest = omega (arith, e) in
    let due : 0 < left = omega (arith, e) in
    ap (λ t. to_ascii b ∷ (t ++ spelled form left (c ∷ xs))) (none_due form left due)
    ∙ ap (λ t. to_ascii b ∷ t) (bytes_spelled form (c ∷ xs) left rest long due)

bytes_left : (xs : List ℕ) (left rest : ℕ) → left ≡ length xs + rest
    → left_after left xs ≡ Some rest
bytes_left [] zero rest e = let same : zero ≡ rest = omega (arith, e) in ap (λ (n : ℕ). Some n) same
bytes_left [] (suc left) rest e =
    let same : suc left ≡ rest = omega (arith, e) in ap (λ (n : ℕ). Some n) same
bytes_left (b ∷ xs) zero rest e = absurd (omega (arith, e))
bytes_left (b ∷ xs) (suc left) rest e =
    let long : left ≡ length xs + rest = omega (arith, e) in bytes_left xs left rest long

pub bytes_taken : (form : Form) (xs : List ℕ) (n left rest due : ℕ) (piece : List ℕ)
    (old mid new : Option (List ℕ)) → n ≤ length xs → n + rest ≡ left → 0 < left
    → piece ≡ map to_ascii (take n xs) → Appends old mid piece → rest ≡ due
    → Appends mid new (due_end form due) → IsTaken (Some form) left (take n xs) old new rest
bytes_taken form xs n left rest due piece old mid new few sum h same text late end =
    let long : length (take n xs) ≡ n = length-take-le n xs few in
    let e : left ≡ length (take n xs) + rest = omega (arith, long, sum) in
    let ended : Appends mid new (due_end form rest) =
    subst (λ (n : ℕ). Appends mid new (due_end form n)) (sym late) end in (
      subst (Appends old new) (sym (bytes_spelled form (take n xs) left rest e h))
          (Appends-trans old mid new _ _ (subst (Appends old mid) same text) ended),
      bytes_left (take n xs) left rest e,
    )
