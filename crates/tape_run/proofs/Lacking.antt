-- The search for a missing section.
use Rattle.std.proofs.Common.{◌≡◌, ⊎_elim, ℕ, zero, suc, ◌+◌, ◌-◌, ◌<◌, ◌≤◌, Bool, true, false}
use Rattle.std.proofs.Common.{List, Option, Some, None, refl, sym, ap, subst, ◌∙◌, arith}
use Rattle.std.proofs.{Common.MatchOption, lemmas.Bool.cases_eq}
use Rattle.tape_run.specs.Lacks.{entry_at, key_at, good_end, lack_by, first_lack, lack_of, GoesOnTo}
use Rattle.tape_run.specs.{Passing.Told, Lacks.IsFoundWhole, Lacks.IsFirstLack, Lacks.LackIsFirst}

-- after a good section that does not end its file
pub lacks_behind : (c : List Told) (set_id : List ℕ) (file sect left : ℕ) → 0 < left
    → good_end (entry_at c (key_at set_id file sect)) ≡ Some false
    → first_lack c set_id file sect left ≡ first_lack c set_id file (sect + 1) (left - 1)
lacks_behind c set_id file sect zero some e = absurd (omega arith)
lacks_behind c set_id file sect (suc n) some e =
    let one : n ≡ suc n - 1 = omega arith in
    ap (λ (g : Option Bool). lack_by g sect (first_lack c set_id file (sect + 1) n)) e
    ∙ ap (first_lack c set_id file (sect + 1)) one

abbrev Told_by : List Told → List ℕ → ℕ → Option ℕ → Type 0
Told_by c set_id file lack =
    MatchOption lack (IsFoundWhole c set_id file) (IsFirstLack c set_id file)

-- one more section continues
one_more : (c : List Told) (set_id : List ℕ) (file sect : ℕ) → GoesOnTo c set_id file sect
    → good_end (entry_at c (key_at set_id file sect)) ≡ Some false
    → GoesOnTo c set_id file (sect + 1)
one_more c set_id file sect before here i least most =
    ⊎_elim (λ (same : i ≡ sect). subst (λ n. good_end (entry_at c (key_at set_id file n))
    ≡ Some false) (sym same) here)
    (λ (other : i ≡ sect → ⊥). before i least (omega (arith, most, other))) (cases_eq i sect)

lack_here : (c : List Told) (set_id : List ℕ) (file sect n : ℕ) (end : Option Bool)
    → good_end (entry_at c (key_at set_id file sect)) ≡ end → 1 ≤ sect → sect ≤ 9999
    → GoesOnTo c set_id file sect
    → (GoesOnTo c set_id file (sect + 1)
    → Told_by c set_id file (first_lack c set_id file (sect + 1) n))
    → Told_by c set_id file (lack_by end sect (first_lack c set_id file (sect + 1) n))
lack_here c set_id file sect n None e least most before rest =
    record { numbered = (least, omega (arith, most)); goes_on = before; lacks = λ _. e }
lack_here c set_id file sect n (Some true) e least most before rest =
    record { sect = sect; numbered = (least, most); goes_on = before; ends = e }
lack_here c set_id file sect n (Some false) e least most before rest =
    rest (one_more c set_id file sect before e)

lack_from : (c : List Told) (set_id : List ℕ) (file sect n : ℕ) → 1 ≤ sect → sect + n ≡ 10000
    → GoesOnTo c set_id file sect → Told_by c set_id file (first_lack c set_id file sect n)
lack_from c set_id file sect zero least all before = grind (arith)
lack_from c set_id file sect (suc n) least all before =
    lack_here c set_id file sect n (good_end (entry_at c (key_at set_id file sect))) refl least
    (omega (arith, all)) before
    (λ more. lack_from c set_id file (sect + 1) n (omega (arith, least)) (omega (arith, all)) more)

pub first_one : LackIsFirst
unfolding lack_of
first_one c set_id file = lack_from c set_id file 1 9999 (omega arith) (omega arith)
    (λ i least few. absurd (omega (arith, least, few)))
