-- A round in which all readings are asked, in the form of a loop.
use Rattle.std.proofs.Common.{◌≡◌, ℕ, zero, suc, ◌+◌, ◌<◌, ◌≤◌, List, [], ◌∷◌, length, get_or}
use Rattle.std.proofs.Common.{Option, refl, sym, subst, arith}
use Rattle.std.proofs.Math.ListN.{set}
use Rattle.tape_image.specs.Tape.{TapeItem}
use Rattle.tape_run.specs.declared.merge.reading.{Reading.Reading, Verdict.Verdict}
use Rattle.tape_run.specs.declared.merge.reading.Verdict.TheVariants as verdicts
use Rattle.tape_run.specs.MergeSteps.{Asked, AskedAll}
use Rattle.tape_run.specs.MergeCalls.{has_first, firsts_in}

-- the number of readings asked so far, and how many of them have the best item; the others were not
-- asked
abbrev pub AskedFirst : {R : Type 0} → ℕ → List (Reading R) → List (Reading R) → Option TapeItem
    → Option TapeItem → Option TapeItem → Option TapeItem → ℕ → Type 0
AskedFirst zero olds nows best now other beside have =
    (nows ≡ olds) × (now ≡ best) × (beside ≡ other) × (have ≡ 0)
AskedFirst (suc k) (o ∷ olds) (n ∷ nows) best now other beside have =
    (mid : Option TapeItem) × (between : Option TapeItem) × (rest : ℕ)
    × Asked o n best mid other between × AskedFirst k olds nows mid now between beside rest
    × (have ≡ has_first n.verdict + rest)
AskedFirst (suc k) _ _ best now other beside have = ⊥

-- the same for equal readings and equal items
moved : {R : Type 0} (o p n : Reading R) (best mid now other between beside : Option TapeItem)
    → o ≡ p → mid ≡ best → between ≡ other → Asked o n mid now between beside
    → Asked p n best now other beside
moved {R} o p n best mid now other between beside e f g asked =
    subst (λ (t : Option TapeItem). Asked p n best now t beside) g
    (subst (λ (t : Option TapeItem). Asked p n t now between beside) f
    (subst (λ (r : Reading R). Asked r n mid now between beside) e asked))

pub first_more : {R : Type 0} (i : ℕ) (olds nows : List (Reading R))
    (best mid now other between beside : Option TapeItem) (o n : Reading R) (have : ℕ)
    → AskedFirst i olds nows best mid other between have → i < length nows
    → o ≡ get_or nows i o → Asked o n mid now between beside
    → AskedFirst (suc i) olds (set nows i n) best now other beside (have + has_first n.verdict)
first_more zero olds [] best mid now other between beside o n have h lt is asked =
    absurd (omega arith)
first_more zero [] (x ∷ xs) best mid now other between beside o n have h lt is asked =
    absurd (cc h.0)
first_more zero (y ∷ ys) (x ∷ xs) best mid now other between beside o n have
    (same, e, g, none) lt is asked = (
      now,
      beside,
      0,
      moved o y n best mid now other between beside (cc) e g asked,
      (cc, refl, refl, refl),
      omega (arith, none),
    )
first_more (suc i) [] nows best mid now other between beside o n have h lt is asked = absurd h
first_more (suc i) (y ∷ ys) [] best mid now other between beside o n have h lt is asked = absurd h
first_more (suc i) (y ∷ ys) (x ∷ xs) best mid now other between beside o n have
    (then, other_then, count, first, rest, e) lt is asked = (
      then,
      other_then,
      count + has_first n.verdict,
      first,
      first_more i ys xs then mid now other_then between beside o n count rest (omega arith) is
          asked,
      omega (arith, e),
    )

pub first_all : {R : Type 0} (olds nows : List (Reading R))
    (best now other beside : Option TapeItem) (have : ℕ)
    → AskedFirst (length nows) olds nows best now other beside have
    → AskedAll olds nows best now other beside × (have ≡ firsts_in nows)
first_all [] [] best now other beside have h = ((h.1, h.2), h.3)
first_all (y ∷ ys) [] best now other beside have h = absurd (cc h.0)
first_all [] (x ∷ xs) best now other beside have h = absurd h
first_all (y ∷ ys) (x ∷ xs) best now other beside have (then, other_then, count, first, rest, e) =
    let (asked, is) = first_all ys xs then now other_then beside count rest in
    ((then, other_then, first, asked), omega (arith, e, is))

pub has_few : (v : Verdict) → has_first v ≤ 1
has_few verdicts.First = omega arith
has_few _ = omega arith

-- ---- as a loop counts

pub loop_more : {R : Type 0} (olds nows : List (Reading R)) (i : ℕ)
    (best mid now other between beside : Option TapeItem) (o n : Reading R) (have : ℕ)
    → AskedFirst i olds nows best mid other between have → i < length nows
    → o ≡ get_or nows i o → Asked o n mid now between beside
    → AskedFirst (i + 1) olds (set nows i n) best now other beside (have + has_first n.verdict)
loop_more olds nows i best mid now other between beside o n have h lt is asked =
    let next : i + 1 ≡ suc i = omega arith in
    subst (λ (k : ℕ). AskedFirst k olds (set nows i n) best now other beside
    (have + has_first n.verdict)) (sym next) (first_more _ _ _ _ _ _ _ _ _ _ _ _ h lt is asked)

pub loop_ends : {R : Type 0} (olds nows : List (Reading R)) (i : ℕ)
    (best now other beside : Option TapeItem) (have : ℕ)
    → AskedFirst i olds nows best now other beside have → i ≡ length nows
    → AskedAll olds nows best now other beside × (have ≡ firsts_in nows)
loop_ends olds nows i best now other beside have h all =
    first_all olds nows best now other beside have
    (subst (λ (k : ℕ). AskedFirst k olds nows best now other beside have) all h)

-- the verdict of an element of a list
pub asked_at : {R : Type 0} (nows : List (Reading R)) (i : ℕ) (o n : Reading R)
    (best now other beside : Option TapeItem) → o ≡ get_or nows i o
    → Asked (get_or nows i o) n best now other beside → Asked o n best now other beside
asked_at {R} nows i o n best now other beside is asked =
    subst (λ (x : Reading R). Asked x n best now other beside) (sym is) asked

-- the element that was set is in the list
pub set_here : {A : Type 0} (xs : List A) (i : ℕ) (n r : A) → i < length xs
    → r ≡ get_or (set xs i n) i r → r ≡ n
set_here [] i n r lt is = absurd (omega arith)
set_here (x ∷ xs) zero n r lt is = is
set_here (x ∷ xs) (suc i) n r lt is = set_here xs i n r (omega arith) is
