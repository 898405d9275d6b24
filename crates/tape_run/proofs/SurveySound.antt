-- If a survey reports that everything exists, it does.
use Rattle.std.proofs.Common.{◌≡◌, ◌≢◌, ℕ, ◌+◌, Bool, true, false, List, [], ◌∷◌, Option}
use Rattle.std.proofs.Common.{Some, None, refl, sym, ap, ◌∙◌}
use Rattle.std.proofs.Common.{◌&&◌, not, option_map}
use Rattle.std.proofs.{Common.is_some}
use Rattle.std.proofs.lemmas.Bool.{and_parts, or_parts, not-true}
use Rattle.std.specs.{List.AllByRecursion}
use Rattle.tape_run.specs.{SurveyCopies.is_agreed}
use Rattle.tape_run.specs.{declared.section.Lack.Lack, declared.survey.view.ImageSurvey.ImageSurvey}
use Rattle.tape_run.specs.{Checked.Reel, Passing.Told}
use Rattle.tape_run.specs.declared.section.SectionState.TheVariants.{Good}
use Rattle.tape_run.specs.{Noted.is_good}
use Rattle.tape_run.specs.{Reeling.Mounting, Lacks.lacks, Lacks.is_none_lacking, Lacks.found_all}
use Rattle.tape_run.specs.{SurveyWhole.is_whole_sight, SurveyFiles.Filed, SurveyFiles.any_differs}
use Rattle.tape_run.specs.SurveySets.{all_good, follows_end, is_all, is_flawless, none_follows}
use Rattle.tape_run.specs.SurveyFiles.{any_lost, any_misfit, reads_wide}
use Rattle.tape_run.specs.declared.survey.fits.Misfit.{Misfit}
use Rattle.tape_run.specs.SurveyConflicts.{all_placed}
use Rattle.tape_run.specs.SurveyRead.{Found, nothing_found, IsViewed, AreViewed}
use Rattle.tape_run.specs.SurveySound.{IsWhole, IsSound}
use Rattle.tape_run.proofs.{SurveyConflicts.of_all, SurveyAgreed.IsNoted}
use Rattle.tape_run.proofs.SurveyAgreed.{images_noted, agree}
use Rattle.tape_run.proofs.SurveyShown.{good_is}

-- ---- each image

whole_one : (reel : Reel) (sight : Option ImageSurvey) (c d : Found) → IsViewed reel sight c d
    → d.whole ≡ true → IsWhole sight × (c.whole ≡ true)
whole_one None None c d v e =
    absurd (let no : true ≡ false = sym e ∙ ap (λ (f : Found). f.whole) v in cc no)
whole_one (Some before) (Some sight) c d v e =
    let both : (c.whole && is_whole_sight sight) ≡ true = sym v.2 ∙ e in
    let (first, second) = and_parts c.whole (is_whole_sight sight) both in (second, first)
whole_one None (Some sight) c d v e = absurd v
whole_one (Some before) None c d v e = absurd v

whole_all : {L R : Type 0} (gives : Mounting L R) (remaining : R → Option (List ℕ)) (shelf : L)
    (number : ℕ) (sights : List (Option ImageSurvey)) (c : Found) (last : L) (d : Found)
    → AreViewed gives remaining shelf number sights c last d → d.whole ≡ true
    → AllByRecursion IsWhole sights × (c.whole ≡ true)
whole_all gives remaining shelf number [] c last d v e =
    (tt, sym (ap (λ (f : Found). f.whole) v.1) ∙ e)
whole_all gives remaining shelf number (sight ∷ sights) c last d (image, next, mid, gave, is, are) e
    =
    let (rest, on) = whole_all gives remaining next (number + 1) sights mid last d are e in
    let (here, first) = whole_one (option_map remaining image) sight c mid is on in
    ((here, rest), first)

-- ---- what was found

all_are_good : (ts : List Told) → all_good ts ≡ true → AllByRecursion (λ t. t.1.state ≡ Good) ts
all_are_good [] e = tt
all_are_good (t ∷ ts) e = (
  good_is t.1.state (and_parts (is_good t.1.state) (all_good ts) e).0,
  all_are_good ts (and_parts (is_good t.1.state) (all_good ts) e).1,
)

none_is_behind : (c ts : List Told) → none_follows c ts ≡ true
    → AllByRecursion (λ t. follows_end c t ≡ false) ts
none_is_behind c [] e = tt
none_is_behind c (t ∷ ts) e =
    let (here, rest) = and_parts (not (follows_end c t)) (none_follows c ts) e in
    (not-true (follows_end c t) here, none_is_behind c ts rest)

some_found : (ts : List Told) → found_all ts ≡ true → ts ≢ []
some_found [] e none = absurd (cc e)
some_found (t ∷ ts) e none = absurd (cc none)

none_lacks : (ls : List Lack) → is_none_lacking ls ≡ true → ls ≡ []
none_lacks [] e = refl
none_lacks (l ∷ ls) e = absurd (cc e)

pub none_missing : (ts : List Told) → found_all ts ≡ true → lacks ts ≡ []
none_missing [] e = absurd (cc e)
none_missing (t ∷ ts) e = none_lacks (lacks (t ∷ ts)) e

no_pair : (pair : Option (ℕ × ℕ)) → is_some pair ≡ false → pair ≡ None
no_pair None e = refl
no_pair (Some p) e = absurd (cc e)

one_label : (fs : List Filed) → any_differs fs ≡ false
    → AllByRecursion (λ f. f.1.conflict ≡ None) fs
one_label [] e = tt
one_label (f ∷ fs) e =
    let (first, rest) = or_parts (is_some f.1.conflict) (any_differs fs) e in
    (no_pair f.1.conflict first, one_label fs rest)

no_misfit : (misfit : Option Misfit) → is_some misfit ≡ false → misfit ≡ None
no_misfit None e = refl
no_misfit (Some m) e = absurd (cc e)

true_if_not : (b : Bool) → not b ≡ false → b ≡ true
true_if_not true e = refl
true_if_not false e = absurd (cc e)

all_fit : (fs : List Filed) → any_misfit fs ≡ false
    → AllByRecursion (λ f. f.1.misfit ≡ None) fs
all_fit [] e = tt
all_fit (f ∷ fs) e =
    let (first, rest) = or_parts (is_some f.1.misfit) (any_misfit fs) e in
    (no_misfit f.1.misfit first, all_fit fs rest)

none_lost : (fs : List Filed) → any_lost fs ≡ false
    → AllByRecursion (λ f. reads_wide f.1 ≡ true) fs
none_lost [] e = tt
none_lost (f ∷ fs) e =
    let (first, rest) = or_parts (not (reads_wide f.1)) (any_lost fs) e in
    (true_if_not (reads_wide f.1) first, none_lost fs rest)

-- ---- together

pub all_is_sound : {L R : Type 0} (gives : Mounting L R) (remaining : R → Option (List ℕ))
    (shelf last : L) (sights : List (Option ImageSurvey)) (d : Found)
    (v : AreViewed gives remaining shelf 0 sights nothing_found last d) → is_all d ≡ true
    → IsSound gives remaining shelf last sights d v
all_is_sound gives remaining shelf last sights d v e =
    let lost = any_lost d.files.notes in
    let misfit = any_misfit d.files.notes in
    let behind = none_follows d.sections d.sections in
    let flawless = is_flawless d.files.notes && behind in
    let agreed_all = is_agreed d.copies.conflicts && flawless in
    let labelled = not (any_differs d.files.notes) && agreed_all in
    let (whole, one) = and_parts d.whole (found_all d.sections
    && (all_good d.sections && labelled)) e in
    let (found, two) = and_parts (found_all d.sections) (all_good d.sections && labelled) one in
    let (good, three) = and_parts (all_good d.sections) labelled two in
    let (labels, four) = and_parts (not (any_differs d.files.notes)) agreed_all three in
    let (agreed, five) = and_parts (is_agreed d.copies.conflicts) flawless four in
    let (six, ends) = and_parts (is_flawless d.files.notes) behind five in
    let (second, fits) = and_parts (not lost) (not misfit) six in
    let all = images_noted gives remaining [] shelf 0 sights nothing_found last d v (λ _. tt) agreed
    in
    record {
      images = (whole_all gives remaining shelf 0 sights nothing_found last d v whole).0;
      found = some_found d.sections found;
      sections = all_are_good d.sections good;
      missing = none_missing d.sections found;
      ends = none_is_behind d.sections d.sections ends;
      labels = one_label d.files.notes (not-true (any_differs d.files.notes) labels);
      second = none_lost d.files.notes (not-true lost second);
      fits = all_fit d.files.notes (not-true misfit fits);
      copies = λ x y i j same. agree d.copies.notes x y
          (of_all (IsNoted d.copies.notes)
          (all_placed gives remaining shelf 0 sights nothing_found last d v) x all i)
          (of_all (IsNoted d.copies.notes)
          (all_placed gives remaining shelf 0 sights nothing_found last d v) y all j) same;
    }
