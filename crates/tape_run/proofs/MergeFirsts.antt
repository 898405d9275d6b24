-- Of the items that readings have at one place, the first that could be read, and the first other
-- one.
use Rattle.std.proofs.Common.{◌≡◌, ◌≢◌, ◌⊎◌, inl, inr, List, [], ◌∷◌, Option, Some, None}
use Rattle.std.proofs.Common.{true, false, refl, sym, ap, subst, ◌∙◌}
use Rattle.tape_image.specs.Tape.{TapeItem, block, bad, mark}
use Rattle.tape_run.specs.declared.merge.reading.Reading.{Reading}
use Rattle.tape_run.specs.declared.merge.reading.Verdict.{Verdict}
use Rattle.tape_run.specs.declared.merge.reading.Verdict.TheVariants as verdicts
use Rattle.tape_run.specs.MergeSteps.{joined, Compares, IsFirst}
use Rattle.tape_run.proofs.MergeNext.{disagrees_good}
use Rattle.tape_run.proofs.MergeVerdicts.{Keeps, compares_keeps, disagrees_more, disagrees_other}
use Rattle.tape_run.proofs.MergeVerdicts.{good_more, is_less, joined_good, less_of}

-- ---- readings that were asked, by their items

-- the best item and the other one after a reading that may have an item
abbrev pub ComparesIf : Verdict → Option TapeItem → Option TapeItem → Option TapeItem
    → Option TapeItem → Option TapeItem → Type 0
ComparesIf v None best now other beside = (now ≡ best) × (beside ≡ other)
ComparesIf v (Some x) best now other beside = Compares v x best now other beside

-- the same after several readings
abbrev pub AreCompared : {R : Type 0} → List (Reading R) → List (Option TapeItem) → Option TapeItem
    → Option TapeItem → Option TapeItem → Option TapeItem → Type 0
AreCompared [] [] best now other beside = (now ≡ best) × (beside ≡ other)
AreCompared (n ∷ nows) (x ∷ xs) best now other beside = (mid : Option TapeItem)
    × (between : Option TapeItem) × ComparesIf n.verdict x best mid other between
    × AreCompared nows xs mid now between beside
AreCompared _ _ best now other beside = ⊥

keeps_if : (v : Verdict) (x best now other beside : Option TapeItem)
    → ComparesIf v x best now other beside → Keeps best now other beside
keeps_if v None best now other beside (same, left) = (λ _. same, λ _. left)
keeps_if v (Some x) best now other beside h = compares_keeps v x best now other beside h

all_kept : {R : Type 0} (nows : List (Reading R)) (xs : List (Option TapeItem))
    (best now other beside : Option TapeItem) → AreCompared nows xs best now other beside
    → Keeps best now other beside
all_kept [] [] best now other beside (same, left) = (λ _. same, λ _. left)
all_kept [] (x ∷ xs) best now other beside h = absurd h
all_kept (n ∷ nows) [] best now other beside h = absurd h
all_kept (n ∷ nows) (x ∷ xs) best now other beside (mid, between, one, rest) =
    let first = keeps_if n.verdict x best mid other between one in
    let more = all_kept nows xs mid now between beside rest in (
      λ h. more.0 (less_of mid best (first.0 h) h) ∙ first.0 h,
      λ h. more.1 (less_of between other (first.1 h) h) ∙ first.1 h,
    )

-- ---- the first item that could be read

joined_less : (best : Option TapeItem) → is_less best ≡ true
    → is_less (Some (joined best bad)) ≡ true
joined_less None less = refl
joined_less (Some bad) less = refl
joined_less (Some (block b)) less = absurd (cc less)
joined_less (Some mark) less = absurd (cc less)

-- an item is the first, or it is bad
one_first : (v : Verdict) (x : TapeItem) (best mid now other between : Option TapeItem)
    → Compares v x best mid other between → is_less best ≡ true
    → (is_less mid ≡ false → now ≡ mid)
    → ((x ≢ bad) × (now ≡ Some x)) ⊎ ((x ≡ bad) × (is_less mid ≡ true))
one_first verdicts.First x best mid now other between (nb, (a, is), left) less keeps =
    let here : mid ≡ Some x = is ∙ ap Some (joined_good best x a nb) in
    inl (nb, keeps (less_of mid (Some x) here (good_more x nb)) ∙ here)
one_first verdicts.Bad x best mid now other between (is_bad, (a, is), left) less keeps =
    let here : mid ≡ Some (joined best bad) =
    is ∙ ap (λ (y : TapeItem). Some (joined best y)) is_bad in
    inr (is_bad, ap is_less here ∙ joined_less best less)
one_first verdicts.Second x best mid now other between ((never, same), h) less keeps =
    absurd (cc (sym less ∙ disagrees_more best x never))
one_first verdicts.Third x best mid now other between ((never, same), h) less keeps =
    absurd (cc (sym less ∙ disagrees_more best x never))
one_first verdicts.Ended x best mid now other between h less keeps = absurd h
one_first (verdicts.Failed fault) x best mid now other between h less keeps = absurd h

-- the best item at the end, if it could be read
pub first_is : {R : Type 0} (nows : List (Reading R)) (xs : List (Option TapeItem))
    (best now other beside : Option TapeItem) → AreCompared nows xs best now other beside
    → is_less best ≡ true → is_less now ≡ false → IsFirst (λ x. x ≢ bad) xs now
first_is [] [] best now other beside (same, left) less more =
    absurd (cc (sym less ∙ ap is_less (sym same) ∙ more))
first_is [] (x ∷ xs) best now other beside h less more = absurd h
first_is (n ∷ nows) [] best now other beside h less more = absurd h
first_is (n ∷ nows) (None ∷ xs) best now other beside (mid, between, (same, left), rest) less
    more = first_is nows xs mid now between beside rest (ap is_less same ∙ less) more
first_is (n ∷ nows) (Some x ∷ xs) best now other beside (mid, between, one, rest) less more =
    elim (one_first n.verdict x best mid now other between one less
    (all_kept nows xs mid now between beside rest).0) [
      | inl (nb, is) ↦ inl (nb, is)
      | inr (is_bad, still) ↦ inr (
        λ nb. nb is_bad,
        first_is nows xs mid now between beside rest still more,
      )
    ]

-- ---- the first other one

-- an item is the first other one, or there is none yet
one_second : (v : Verdict) (x : TapeItem) (best mid now between beside : Option TapeItem)
    → Compares v x best mid None between → Keeps mid now between beside
    → (((x ≢ bad) × (now ≢ Some x)) × (beside ≡ Some x) × (is_less now ≡ false))
    ⊎ ((((x ≢ bad) × (now ≢ Some x)) → ⊥) × (between ≡ None))
one_second verdicts.First x best mid now between beside (nb, (a, is), left) keeps =
    let here : mid ≡ Some x = is ∙ ap Some (joined_good best x a nb) in
    inr (λ (good, off). off (keeps.0 (less_of mid (Some x) here (good_more x nb)) ∙ here), left)
one_second verdicts.Bad x best mid now between beside (is_bad, takes, left) keeps =
    inr (λ (nb, off). nb is_bad, left)
one_second verdicts.Second x best mid now between beside ((never, same), (a, is)) keeps =
    let nb : x ≢ bad = disagrees_good best x never in
    let here : between ≡ Some x = is ∙ ap Some (joined_good None x a nb) in
    let more : is_less mid ≡ false = less_of mid best same (disagrees_more best x never) in
    let stays : now ≡ mid = keeps.0 more in
    inl (
      (nb, λ e. disagrees_other best x never (sym same ∙ sym stays ∙ e)),
      keeps.1 (less_of between (Some x) here (good_more x nb)) ∙ here,
      less_of now mid stays more,
    )
one_second verdicts.Third x best mid now between beside (takes, (apart, left)) keeps =
    absurd (apart tt)
one_second verdicts.Ended x best mid now between beside h keeps = absurd h
one_second (verdicts.Failed fault) x best mid now between beside h keeps = absurd h

-- the other item at the end; if there is one, the best item could be read
pub second_is : {R : Type 0} (nows : List (Reading R)) (xs : List (Option TapeItem))
    (best now beside : Option TapeItem) → AreCompared nows xs best now None beside
    → IsFirst (λ x. (x ≢ bad) × (now ≢ Some x)) xs beside
    × (beside ≢ None → is_less now ≡ false)
second_is [] [] best now beside (same, left) = (left, λ some. absurd (some left))
second_is [] (x ∷ xs) best now beside h = absurd h
second_is (n ∷ nows) [] best now beside h = absurd h
second_is (n ∷ nows) (None ∷ xs) best now beside (mid, between, (same, left), rest) =
    second_is nows xs mid now beside
    (subst (λ (o : Option TapeItem). AreCompared nows xs mid now o beside) left rest)
second_is (n ∷ nows) (Some x ∷ xs) best now beside (mid, between, one, rest) =
    elim (one_second n.verdict x best mid now between beside one
    (all_kept nows xs mid now between beside rest)) [
      | inl (h, is, more) ↦ (inl (h, is), λ _. more)
      | inr (off, none) ↦
          let (second, more) = second_is nows xs mid now beside
          (subst (λ (o : Option TapeItem). AreCompared nows xs mid now o beside) none rest) in
          (inr (off, second), more)
    ]
