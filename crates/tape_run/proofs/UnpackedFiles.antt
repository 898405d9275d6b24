-- The files on the images of a source, image by image and file by file.
use Rattle.std.proofs.Common.{◌≡◌, ℕ, zero, suc, ◌+◌, ◌-◌, ◌<◌, List, [], ◌∷◌, ◌++◌, length}
use Rattle.std.proofs.Common.{Option, sym, ap, subst, ◌∙◌, arith}
use Rattle.std.proofs.Common.{append_assoc, length-append, option_map}
use Rattle.tape_run.specs.declared.{survey.view.ImageSurvey.ImageSurvey, unpack.SetFile.SetFile}
use Rattle.tape_run.specs.{Reeling.Mounting}
use Rattle.tape_run.specs.SurveyRead.{Found, nothing_found, IsViewed, AreViewed}
use Rattle.tape_run.specs.Unpacking.{file_at, files_from}
use Rattle.tape_run.proofs.{SurveyRead.viewed_more}

-- the first images were read
pub record ViewedSoFar {L R : Type 0} (gives : Mounting L R) (remaining : R → Option (List ℕ))
    (shelf left : L) (number : ℕ) (d : Found) (sights : List (Option ImageSurvey)) : Type 0 where
  pub counted : length sights ≡ number
  pub viewed : AreViewed gives remaining shelf 0 sights nothing_found left d

pub views_more : {L R : Type 0} (gives : Mounting L R) (remaining : R → Option (List ℕ))
    (shelf left next : L) (number : ℕ) (mid d : Found) (image : Option R)
    (sight : Option ImageSurvey)
    (old new : List (Option ImageSurvey)) → new ≡ old ++ sight ∷ []
    → ViewedSoFar gives remaining shelf left number mid old
    → gives left number image next → IsViewed (option_map remaining image) sight mid d
    → ViewedSoFar gives remaining shelf next (number + 1) d new
views_more gives remaining shelf left next number mid d image sight old new put s g viewed =
    let at : number ≡ 0 + length old = omega (arith, s.counted) in
    subst (λ l. ViewedSoFar gives remaining shelf next (number + 1) d l) (sym put) (record {
      counted = length-append old (sight ∷ []) ∙ ap (λ n. n + 1) s.counted;
      viewed = viewed_more _ _ _ _ _ _ _ _ _ _ next _ s.viewed
          (subst (λ n. gives left n image next) at g) viewed;
    })

-- ---- files and sets

files_behind : (d : Found) (set_id : List ℕ) (file left : ℕ) → 0 < left
    → files_from d set_id file left
    ≡ file_at d set_id file ++ files_from d set_id (file + 1) (left - 1)
files_behind d set_id file zero some = absurd (omega arith)
files_behind d set_id file (suc n) some =
    let one : n ≡ suc n - 1 = omega arith in
    ap (λ m. file_at d set_id file ++ files_from d set_id (file + 1) m) one

-- one more file was added
pub file_added : (d : Found) (set_id : List ℕ) (old new goal : List SetFile) (before greatest : ℕ)
    → before < greatest → new ≡ old ++ file_at d set_id (before + 1)
    → old ++ files_from d set_id (before + 1) (greatest - before) ≡ goal
    → new ++ files_from d set_id (before + 1 + 1) (greatest - (before + 1)) ≡ goal
file_added d set_id old new goal before greatest within put was =
    let here = file_at d set_id (before + 1) in
    let fewer : greatest - (before + 1) ≡ greatest - before - 1 = omega (arith, within) in
    let some : 0 < greatest - before = omega (arith, within) in
    ap (λ ls. ls ++ files_from d set_id (before + 1 + 1) (greatest - (before + 1))) put
    ∙ append_assoc old here (files_from d set_id (before + 1 + 1) (greatest - (before + 1))) ∙ ap
    (λ n. old ++ (here ++ files_from d set_id (before + 1 + 1) n)) fewer ∙ ap (λ ls. old ++ ls)
    (sym (files_behind d set_id (before + 1) _ some)) ∙ was
