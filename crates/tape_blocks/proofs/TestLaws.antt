-- The tests at an offset agree with the step of the walk there.
use Rattle.std.proofs.Common.{◌≡◌, ℕ, ◌+◌, ◌-◌, Bool, true, false, not, cond, ltb, leb, eqb, List}
use Rattle.std.proofs.Common.{[], ◌∷◌, ◌++◌, length, take, drop, Option, Some, None, Result, Ok}
use Rattle.std.proofs.Common.{Err, refl, ◌∙◌, arith}
use Rattle.std.proofs.lemmas.Bool.{le-leb, lt-leb, ltb-true, ltb-false}
use Rattle.std.specs.Prelude.{◌||◌, is_none, is_some, if◌then◌else◌}
use Rattle.std.specs.Str.{all_ascii_digits}
use Rattle.tape_label.specs.declared.values.Format.TheVariants.{Fixed, Counted, Spanned}
use Rattle.tape_label.specs.declared.values.Format.TheVariants.{Undefined, Variable}
use Rattle.std.specs.Prelude.{slice_index, max, ◌&&◌}
use Rattle.tape_blocks.specs.Faults.{word_of, are_bytes}
use Rattle.tape_blocks.specs.Block.{span_coded}
use Rattle.tape_blocks.specs.Units.{described}
use Rattle.tape_label.specs.{Digits.number_of, declared.values.Format.Format}
use Rattle.tape_blocks.specs.declared.check.BlockCause.TheVariants.{NotMultiple, BadCount, PastEnd}
use Rattle.tape_blocks.specs.declared.check.BlockCause.TheVariants.{BadIndicator, SpanBroken}
use Rattle.tape_blocks.specs.declared.parts.Span.TheVariants.{Whole}
use Rattle.tape_blocks.specs.Faults.{Test, test, bool_eq, may_stand, first_fault, padding_tests}
use Rattle.tape_blocks.specs.Faults.{count_tests, tests, fault}
use Rattle.tape_blocks.specs.Units.{padding_by, short_by, counted, spanned, unit_at}
use Rattle.tape_blocks.specs.{declared.check.BlockFault.BlockFault, declared.parts.Span.Span}
use Rattle.tape_blocks.specs.{declared.check.Found.Found, Block.first_other, Spans.continues}

-- the fault that keeps a walk from continuing here, or `None`
abbrev pub stop_by : Bool → Result (Option Found) BlockFault → Option BlockFault
stop_by begun (Err f) = Some f
stop_by begun (Ok None) = None
stop_by begun (Ok (Some found)) =
    if bool_eq (continues found.span) begun then None else Some (fault 0 SpanBroken)

-- the same fault, with its place counted from the start of the block
abbrev pub moved : ℕ → Option BlockFault → Option BlockFault
moved at None = None
moved at (Some f) = Some (fault (at + f.place) f.cause)

pub leb-not : (a b : ℕ) → leb a b ≡ not (ltb b a)
leb-not a b = grind (arith, ltb, leb, not, lt-leb, ltb-true, le-leb, ltb-false)

fixed_cases : (short : Bool) (o : Option ℕ) (begun : Bool) (at n : ℕ) →
    first_fault (test (not short || is_none o) at NotMultiple
    ∷ test (short || not begun) at SpanBroken ∷ []) ≡ moved at (stop_by begun
    (cond short (short_by o) (Ok (Some record { span = Whole; head = 0; len = n }))))
fixed_cases true None begun at n = refl
fixed_cases true (Some i) begun at n = let z : at + 0 ≡ at = omega arith in rw z refl
fixed_cases false o true at n = let z : at + 0 ≡ at = omega arith in rw z refl
fixed_cases false o false at n = refl

-- the tests of a count, and the test after them
abbrev counted_tests : Bool → Bool → Bool → Bool → Bool → ℕ → List Test
counted_tests a b c d follows at =
    test (not a) at BadCount ∷ test b at BadCount ∷ test (not c) at BadCount
    ∷ test (not d) at PastEnd ∷ test follows at SpanBroken ∷ []

abbrev counted_step : Bool → Bool → Bool → Bool → Found → Result (Option Found) BlockFault
counted_step a b c d found =
    cond a (Err (fault 0 BadCount)) (cond (not b) (Err (fault 0 BadCount))
    (cond c (Err (fault 0 BadCount)) (cond d (Err (fault 0 PastEnd)) (Ok (Some found)))))

last_case : (follows : Bool) (at : ℕ) → first_fault (test follows at SpanBroken ∷ [])
    ≡ moved at (if follows then None else Some (fault 0 SpanBroken))
last_case true at = refl
last_case false at = let z : at + 0 ≡ at = omega arith in rw z refl

counted_cases : (a b c d begun : Bool) (found : Found) (at : ℕ)
    → first_fault (counted_tests a b c d (bool_eq (continues found.span) begun) at)
    ≡ moved at (stop_by begun (counted_step a b c d found))
counted_cases false true false false begun found at = grind (arith, last_case)
counted_cases a b c d begun found at = let z : at + 0 ≡ at = omega arith in rw z refl

counted_are : (span : Span) (head at : ℕ) (begun : Bool) (rest : List ℕ)
    → first_fault (count_tests head at rest ++ test (bool_eq (continues span) begun) at SpanBroken
    ∷ []) ≡ moved at (stop_by begun (counted span head rest))
counted_are span head at begun rest =
    let count = take 4 (drop (head - 4) rest) in
    rw (
      leb-not head (length rest),
      leb-not head (number_of count),
      leb-not (number_of count) (length rest),
    )
    (counted_cases (ltb (length rest) head) (all_ascii_digits count) (ltb (number_of count) head)
    (ltb (length rest) (number_of count)) begun
    (record { span = span; head = head; len = number_of count }) at)

padding_are : (o : Option ℕ) (rest : List ℕ) (begun : Bool) (at : ℕ) → first_other rest ≡ o
    → first_fault (padding_tests at rest) ≡ moved at (stop_by begun (padding_by (first_other rest)))
padding_are None rest begun at e = rw e refl
padding_are (Some i) rest begun at e = rw e refl

spanned_are : (o : Option Span) (at : ℕ) (begun : Bool) (rest : List ℕ)
    → first_fault (test (is_some o) at BadIndicator ∷ count_tests 5 at rest
    ++ test (may_stand o begun) at SpanBroken ∷ []) ≡ moved at (stop_by begun (spanned o rest))
spanned_are None at begun rest = let z : at + 0 ≡ at = omega arith in rw z refl
spanned_are (Some span) at begun rest = counted_are span 5 at begun rest

first_if : (b : Bool) (xs ys : List Test) (o p : Option BlockFault) → first_fault xs ≡ o
    → first_fault ys ≡ p → first_fault (if b then xs else ys) ≡ cond b o p
first_if true xs ys o p e f = e
first_if false xs ys o p e f = f

moved_if : (b : Bool) (at : ℕ) (begun : Bool) (x y : Result (Option Found) BlockFault)
    → cond b (moved at (stop_by begun x)) (moved at (stop_by begun y))
    ≡ moved at (stop_by begun (cond b x y))
moved_if true at begun x y = refl
moved_if false at begun x y = refl

own_cases : (short begun : Bool) (at n : ℕ)
    → first_fault (test (not short) at NotMultiple ∷ test (not begun) at SpanBroken ∷ [])
    ≡ moved at (stop_by begun (cond short (Err (fault 0 NotMultiple))
    (Ok (Some record { span = Whole; head = 0; len = n }))))
own_cases true begun at n = let z : at + 0 ≡ at = omega arith in rw z refl
own_cases false true at n = let z : at + 0 ≡ at = omega arith in rw z refl
own_cases false false at n = refl

-- the step at a descriptor word, by its tests
abbrev described_by : Option Span → Bool → Bool → ℕ → Result (Option Found) BlockFault
described_by None low high len = Err (fault 0 BadIndicator)
described_by (Some span) low high len =
    cond low (Err (fault 0 BadCount)) (cond high (Err (fault 0 PastEnd))
    (Ok (Some record { span = span; head = 4; len = len })))

described_is : (o : Option Span) (len : ℕ) (bytes : List ℕ)
    → described o len bytes ≡ described_by o (ltb len 4) (ltb (length bytes) len) len
described_is None len bytes = refl
described_is (Some s) len bytes = refl

-- the tests of a descriptor word, and the step there
word_cases : (short bytes low high begun : Bool) (o : Option Span) (at len : ℕ)
    → first_fault (test (not short && bytes) at BadCount ∷ test (is_some o) at BadIndicator
    ∷ test (not low) at BadCount ∷ test (not high) at PastEnd
    ∷ test (may_stand o begun) at SpanBroken ∷ [])
    ≡ moved at (stop_by begun (cond (short || not bytes) (Err (fault 0 BadCount))
    (described_by o low high len)))
word_cases true bytes low high begun o at len = let z : at + 0 ≡ at = omega arith in rw z refl
word_cases false false low high begun o at len = let z : at + 0 ≡ at = omega arith in rw z refl
word_cases false true low high begun None at len = let z : at + 0 ≡ at = omega arith in rw z refl
word_cases false true true high begun (Some s) at len =
    let z : at + 0 ≡ at = omega arith in rw z refl
word_cases false true false true begun (Some s) at len =
    let z : at + 0 ≡ at = omega arith in rw z refl
word_cases false true false false begun (Some s) at len =
    last_case (bool_eq (continues s) begun) at

pub tests_are : (format : Format) (rec_len : ℕ) (begun : Bool) (at : ℕ) (rest : List ℕ)
    → first_fault (tests format rec_len begun at rest)
    ≡ moved at (stop_by begun (unit_at format rec_len rest))
unfolding unit_at
tests_are Fixed rec_len begun at rest = grind (arith, leb-not, fixed_cases)
tests_are Counted rec_len begun at [] = refl
tests_are Counted rec_len begun at (c ∷ cs) =
    first_if (eqb c 94) _ _ _ _ (padding_are (first_other (c ∷ cs)) (c ∷ cs) begun at refl)
    (counted_are Whole 4 at begun (c ∷ cs))
    ∙ moved_if (eqb c 94) at begun (padding_by (first_other (c ∷ cs))) (counted Whole 4 (c ∷ cs))
tests_are Undefined rec_len begun at [] = refl
tests_are Undefined rec_len begun at (c ∷ cs) =
    rw (leb-not (max 1 rec_len) (length (c ∷ cs)))
    (own_cases (ltb (length (c ∷ cs)) (max 1 rec_len)) begun at (max 1 rec_len))
tests_are Variable rec_len begun at [] = refl
tests_are Variable rec_len begun at (c ∷ cs) =
    let rest = c ∷ cs in
    let o = span_coded (slice_index rest 2) (slice_index rest 3) in
    rw (
      leb-not 4 (length rest),
      leb-not 4 (word_of rest),
      leb-not (word_of rest) (length rest),
      described_is o (word_of rest) rest,
    )
    (word_cases (ltb (length rest) 4) (are_bytes rest) (ltb (word_of rest) 4)
    (ltb (length rest) (word_of rest)) begun o at (word_of rest))
tests_are Spanned rec_len begun at [] = refl
tests_are Spanned rec_len begun at (c ∷ cs) =
    grind (arith, first_if, eqb, padding_are, spanned_are, moved_if)
