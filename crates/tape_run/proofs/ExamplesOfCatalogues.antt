-- The examples for catalogues, and for reports on reels.
use Rattle.std.proofs.Common.{◌≡◌, ℕ, zero, suc, List, [], ◌∷◌, ◌++◌, length, true, refl, ap, inl}
use Rattle.std.proofs.Common.{inr, arith, ◌∙◌, Some, None, option_map, slice_index, get_or}
use Rattle.tape_set.specs.Layout.{Volume, Section}
use Rattle.tape_run.specs.{declared.section.SectionKey.SectionKey, Cases.on_one_volume, Shown.Shown}
use Rattle.tape_run.specs.{declared.section.SectionState.TheVariants.Good, Passing.Told}
use Rattle.tape_run.specs.{Lacks.IsFirstLack, Lacks.lack_of, Noted.KeepsPlaces, Noted.GoodIsShown}
use Rattle.tape_run.specs.{Reeling.Took, Reeling.AreMounted, WholeSet.HasEach}
use Rattle.tape_run.specs.Checked.{IsReel, Reel}
use Rattle.tape_run.specs.CasesOfCatalogues.{CasesOfCatalogues, CasesOfCopies, CasesOfReports, met}

-- ---- the catalogue

nothing_known : (id : List ℕ) (file sect : ℕ) → IsFirstLack [] id file sect → sect ≡ 1
nothing_known id file zero l = let least = l.numbered.0 in absurd (omega (arith, least))
nothing_known id file (suc zero) l = refl
nothing_known id file (suc (suc n)) l =
    absurd (let e = l.goes_on 1 (omega arith) (omega arith) in cc e)

sections_stay : (t : Told) → KeepsPlaces (t ∷ []) [] → ⊥
sections_stay t (more, e) =
    let n : 0 ≡ suc (length more) = ap length e in
    absurd (omega (arith, n))

abbrev first_sect : List SectionKey → ℕ
first_sect [] = 0
first_sect (key ∷ keys) = key.sect

not_moved : KeepsPlaces (met 1 1 true Good ∷ []) (met 1 2 true Good ∷ met 1 1 true Good ∷ []) → ⊥
not_moved (more, e) =
    let n : 2 ≡ 1 = ap first_sect e in
    absurd (omega (arith, n))

first_good : (t : Told) → t.1.state ≡ Good → GoodIsShown [] [] (t ∷ []) → Shown [] t.0 t.1
first_good t good is = elim (is t ([], [], refl) good) [
  | inl (front, rest, e) ↦ absurd (none front rest e)
  | inr shown ↦ shown
]
  where
    none : (front rest : List Told) → [] ≡ front ++ t ∷ rest → ⊥
    none [] rest e = absurd (cc e)
    none (x ∷ front) rest e = absurd (cc e)

pub cases_of_catalogues : CasesOfCatalogues
unfolding lack_of
cases_of_catalogues = record {
  key = λ set x. (refl, refl, refl);
  nothing_known = nothing_known;
  nothing_found = λ id file f. absurd (let e = f.ends in cc e);
  lacks_itself = λ c id file l. l.lacks (omega arith);
  first_goes_on = λ c id file f more. f.goes_on 1 (omega arith) more;
  no_good = λ key good. absurd (let e = good.there in cc e);
  sections_stay = sections_stay;
  not_moved = not_moved;
  first_good = first_good;
}

-- ---- images and copies

each_volume : (id : List ℕ) (v : Volume) (files : List (List Section))
    → HasEach (on_one_volume id v files) (1 ∷ 1 ∷ [])
each_volume id v files zero some = absurd (cc some)
each_volume id v files (suc zero) some = ([], 1 ∷ [], refl)
each_volume id v files (suc (suc zero)) some = absurd (cc some)
each_volume id v files (suc (suc (suc k))) some = absurd (cc some)

one_lacks : (id : List ℕ) (v : Volume) (files : List (List Section))
    → HasEach (on_one_volume id v files) (2 ∷ []) → ⊥
one_lacks id v files has = none (has 1 refl)
  where
    none : Rattle.tape_set.specs.Laws.StandsIn {A = ℕ} (2 ∷ []) 1 → ⊥
    none ([], rest, e) =
        let n : 2 ≡ 1 = ap (λ l. slice_index l 0) e in
        absurd (omega (arith, n))
    none (x ∷ [], rest, e) = absurd (cc e)
    none (x ∷ y ∷ front, rest, e) = absurd (cc e)

pub cases_of_copies : CasesOfCopies
cases_of_copies = record {
  each_volume = each_volume;
  one_lacks = one_lacks;
  whole_copy = λ set k end ending xs b. (end, ending, b);
  ends_are_none = (tt, tt);
  cut_is_none = λ e. absurd (cc e);
  device_is_one = λ n. n refl;
  copies = λ set k n bytes copy. (copy, tt, tt);
  unopened = λ set line k are. are;
  told_whole = λ set lines text found w. (w.all, w.told, w.good);
  shown_on = λ reels told s. (s.stands, s.shown, s.read);
}

-- ---- reports

same_reel : (reel : Reel) → option_map (λ x. x) reel ≡ reel
same_reel None = refl
same_reel (Some x) = refl

two_reels : (a b x y : Reel) → x ≡ a → y ≡ b → x ∷ y ∷ [] ≡ a ∷ b ∷ []
two_reels a b x y p q = ap (λ r. r ∷ y ∷ []) p ∙ ap (λ r. a ∷ r ∷ []) q

two_mounted : (a b : Reel) (reels left : List Reel)
    → AreMounted Took (IsReel (λ x. x)) (a ∷ b ∷ []) 0 reels left → length reels ≡ 2
    → reels ≡ a ∷ b ∷ []
two_mounted a b [] left are e = absurd (omega (arith, e))
two_mounted a b (x ∷ []) left are e = absurd (omega (arith, e))
two_mounted a b (x ∷ y ∷ []) left (i, s, (at, then), is, (j, t, (next, last), one, same)) e =
    two_reels a b x y (is ∙ same_reel i ∙ at)
    (one ∙ same_reel j ∙ next ∙ ap (λ l. get_or l 1 None) then)
two_mounted a b (x ∷ y ∷ z ∷ reels) left are e = absurd (omega (arith, e))

pub cases_of_reports : CasesOfReports
cases_of_reports = grind (arith, two_mounted)
