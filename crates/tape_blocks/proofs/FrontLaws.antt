-- Prefixes of a block: of two prefixes one continues the other, and a prefix does not continue if
-- no unit in span order follows.
use Rattle.std.proofs.Common.{◌≡◌, ℕ, ◌+◌, ◌≤◌, Bool, true, false, List, [], ◌∷◌, ◌++◌, length}
use Rattle.std.proofs.Common.{drop, Option, Some, None, Result, Ok, Err, refl, sym, ap, subst, ◌∙◌}
use Rattle.std.proofs.Common.{append_assoc, arith, length-append, inl, inr}
use Rattle.std.proofs.lemmas.List.{drop-drop, append-nil}
use Rattle.std.proofs.lemmas.List.Concat.{flat_map-cons, flat_map-append}
use Rattle.std.specs.{Prelude.◌⊎◌, List.AllByRecursion}
use Rattle.tape_label.specs.declared.values.Format.{Format}
use Rattle.tape_blocks.specs.Block.{Portion, head_len, spelling, spellings, IsUnit, BeginsWith}
use Rattle.tape_blocks.specs.{Spans.continues, Spans.leaves, Spans.InOrder, Parts.portion}
use Rattle.tape_blocks.specs.{declared.check.BlockFault.BlockFault, declared.check.Found.Found}
use Rattle.tape_blocks.specs.{Faults.bool_eq, Faults.IsFront, Units.unit_at}
use Rattle.tape_blocks.proofs.UnitLaws.{found_of, unit_found, unit_again, portion_of, rest_of}

-- ---- the order of spans

pub InOrder-append : (begun middle end : Bool) (ps qs : List Portion) → InOrder begun ps middle
    → InOrder middle qs end → InOrder begun (ps ++ qs) end
InOrder-append begun middle end [] qs p q = subst (λ (b : Bool). InOrder b qs end) (sym p) q
InOrder-append begun middle end (x ∷ ps) qs p q =
    (p.0, InOrder-append (leaves x.span) middle end ps qs p.1 q)

pub InOrder-rest : (begun middle end : Bool) (ps more : List Portion) → InOrder begun ps middle
    → InOrder begun (ps ++ more) end → InOrder middle more end
InOrder-rest begun middle end [] more p q = subst (λ (b : Bool). InOrder b more end) p q
InOrder-rest begun middle end (x ∷ ps) more p q =
    InOrder-rest (leaves x.span) middle end ps more p.1 q.1

pub bool_eq-true : (a b : Bool) → bool_eq a b ≡ true → a ≡ b
bool_eq-true true b e = sym e
bool_eq-true false true e = absurd cc
bool_eq-true false false e = refl

pub bool_eq-same : (b : Bool) → bool_eq b b ≡ true
bool_eq-same true = refl
bool_eq-same false = refl

-- ---- units

pub all_append : (format : Format) (rec_len : ℕ) (ps qs : List Portion)
    → AllByRecursion (IsUnit format rec_len) ps → AllByRecursion (IsUnit format rec_len) qs
    → AllByRecursion (IsUnit format rec_len) (ps ++ qs)
all_append format rec_len [] qs p q = q
all_append format rec_len (x ∷ ps) qs p q = (p.0, all_append format rec_len ps qs p.1 q)

pub spellings_first : (format : Format) (p : Portion) (ps : List Portion) (rest : List ℕ)
    → spellings format (p ∷ ps) ++ rest ≡ spelling format p ++ (spellings format ps ++ rest)
spellings_first format p ps rest = grind (arith, flat_map-cons, append_assoc)

pub spellings_push : (format : Format) (ps : List Portion) (p : Portion)
    → spellings format (ps ++ p ∷ []) ≡ spellings format ps ++ spelling format p
spellings_push format ps p = grind (arith, flat_map-append, flat_map-cons, append-nil)

-- Two encodings that begin with a unit at the start of the same bytes begin with the same unit.
same_part : (format : Format) (rec_len : ℕ) (p q : Portion) (x y : List ℕ) → IsUnit format rec_len p
    → IsUnit format rec_len q → spelling format p ++ x ≡ spelling format q ++ y → (p ≡ q) × (x ≡ y)
same_part format rec_len p q x y is_p is_q e =
    let one = unit_again format rec_len p x is_p in
    let two = unit_again format rec_len q y is_q in
    let same = ap (unit_at format rec_len) e in
    let found : found_of format p ≡ found_of format q = cc in
    let part : p ≡ q = sym (portion_of format p x)
    ∙ ap (λ (f : Found). portion f (spelling format p ++ x)) found
    ∙ ap (portion (found_of format q)) e ∙ portion_of format q y in
    let rest : x ≡ y = sym (rest_of format p x)
    ∙ ap (λ (f : Found). drop f.len (spelling format p ++ x)) found
    ∙ ap (drop (head_len format + length q.bytes)) e ∙ rest_of format q y in
    (part, rest)

-- The second list of parts continues the first, with units at the start of `rest`.
pub record GoesOn (format : Format) (rec_len : ℕ) (ps qs : List Portion)
    (rest left : List ℕ) : Type 0 where
  pub more : List Portion
  pub parts : qs ≡ ps ++ more
  pub units : AllByRecursion (IsUnit format rec_len) more
  pub bytes : rest ≡ spellings format more ++ left

abbrev pub EitherGoesOn : Format → ℕ → List Portion → List Portion → List ℕ → List ℕ → Type 0
EitherGoesOn format rec_len ps qs rest left =
    GoesOn format rec_len ps qs rest left ⊎ GoesOn format rec_len qs ps left rest

goes_behind : (format : Format) (rec_len : ℕ) (p q : Portion) (ps qs : List Portion) (rest
    left : List ℕ) → p ≡ q → GoesOn format rec_len ps qs rest left
    → GoesOn format rec_len (p ∷ ps) (q ∷ qs) rest left
goes_behind format rec_len p q ps qs rest left same on = grind arith

either_behind : (format : Format) (rec_len : ℕ) (p q : Portion) (ps qs : List Portion) (rest
    left : List ℕ) → p ≡ q → EitherGoesOn format rec_len ps qs rest left
    → EitherGoesOn format rec_len (p ∷ ps) (q ∷ qs) rest left
either_behind format rec_len p q ps qs rest left same (inl on) = grind (arith, goes_behind)
either_behind format rec_len p q ps qs rest left same (inr on) = grind (arith, goes_behind)

pub either_goes_on : (format : Format) (rec_len : ℕ) (ps qs : List Portion) (rest left : List ℕ)
    → AllByRecursion (IsUnit format rec_len) ps → AllByRecursion (IsUnit format rec_len) qs
    → spellings format ps ++ rest ≡ spellings format qs ++ left
    → EitherGoesOn format rec_len ps qs rest left
either_goes_on format rec_len [] qs rest left all_p all_q e =
    inl record { more = qs; parts = refl; units = all_q; bytes = e }
either_goes_on format rec_len (p ∷ ps) [] rest left all_p all_q e =
    inr record { more = p ∷ ps; parts = refl; units = all_p; bytes = sym e }
either_goes_on format rec_len (p ∷ ps) (q ∷ qs) rest left all_p all_q e =
    let both = sym (spellings_first format p ps rest) ∙ e ∙ spellings_first format q qs left in
    let same = same_part format rec_len p q
    (spellings format ps ++ rest) (spellings format qs ++ left) all_p.0 all_q.0 both in
    either_behind format rec_len p q ps qs rest left same.0
    (either_goes_on format rec_len ps qs rest left all_p.1 all_q.1 same.1)

-- ---- the longest prefix

-- No unit in span order begins here.
abbrev pub NoUnit : Bool → Result (Option Found) BlockFault → Type 0
NoUnit begun (Ok (Some found)) = bool_eq (continues found.span) begun ≡ false
NoUnit begun (Ok None) = Unit {0}
NoUnit begun (Err f) = Unit {0}

no_first : (format : Format) (rec_len : ℕ) (begun end : Bool) (p : Portion) (more : List Portion)
    (rest left : List ℕ) → NoUnit begun (unit_at format rec_len rest)
    → AllByRecursion (IsUnit format rec_len) (p ∷ more) → InOrder begun (p ∷ more) end
    → rest ≡ spellings format (p ∷ more) ++ left → ⊥
no_first format rec_len begun end p more rest left never all order e =
    grind (arith, unit_at, spellings_first, unit_again, bool_eq-same)

no_more : (format : Format) (rec_len : ℕ) (begun end : Bool) (more : List Portion)
    (rest left : List ℕ) → NoUnit begun (unit_at format rec_len rest)
    → AllByRecursion (IsUnit format rec_len) more → InOrder begun more end
    → rest ≡ spellings format more ++ left → length rest ≤ length left
no_more format rec_len begun end [] rest left never all order e = grind arith
no_more format rec_len begun end (p ∷ more) rest left never all order e =
    absurd (no_first format rec_len begun end p more rest left never all order e)

-- A prefix that no unit in span order follows is the longest prefix.
pub longest : (format : Format) (rec_len offset : ℕ) (begun end last : Bool) (block : List ℕ)
    (ps others : List Portion) (rest left : List ℕ) → NoUnit end (unit_at format rec_len rest)
    → IsFront format rec_len offset begun block ps end rest
    → IsFront format rec_len offset begun block others last left → length rest ≤ length left
longest format rec_len offset begun end last block ps others rest left never front other =
    elim (either_goes_on format rec_len ps others rest left front.begins.units other.begins.units
    (sym front.begins.body ∙ other.begins.body)) [
      | inl on ↦ no_more format rec_len end last on.more rest left never on.units
          (InOrder-rest begun end last ps on.more front.order
          (subst (λ (xs : List Portion). InOrder begun xs last) on.parts other.order)) on.bytes
      | inr on ↦ (let long = ap length on.bytes in
          omega (arith, long, length-append (spellings format on.more) rest))
    ]

-- ---- a prefix and the unit after it

pub begins_more : (format : Format) (rec_len offset : ℕ) (block : List ℕ) (ps : List Portion)
    (place : ℕ) (found : Found) → BeginsWith format rec_len offset block ps (drop place block)
    → unit_at format rec_len (drop place block) ≡ Ok (Some found)
    → BeginsWith format rec_len offset block (ps
    ++ portion found (drop place block) ∷ []) (drop (place + found.len) block)
begins_more format rec_len offset block ps place found front e =
    grind (arith, unit_found, drop-drop, all_append, append_assoc, spellings_push)
