-- Images that were read, one after another.
use Rattle.std.proofs.Common.{◌≡◌, ℕ, ◌+◌, List, [], ◌∷◌, ◌++◌, length, Option, refl, subst, arith}
use Rattle.tape_run.specs.{declared.survey.view.ImageSurvey.ImageSurvey, Reeling.Mounting}
use Rattle.tape_run.specs.SurveyRead.{Found, IsViewed, AreViewed}

-- one more image was opened and read
pub viewed_more : {L R : Type 0} (gives : Mounting L R) (remaining : R → Option (List ℕ))
    (shelf : L) (number : ℕ) (sights : List (Option ImageSurvey)) (c : Found) (left : L)
    (mid : Found)
    (sight : Option ImageSurvey) (image : Option R) (last : L) (d : Found)
    → AreViewed gives remaining shelf number sights c left mid
    → gives left (number + length sights) image last
    → IsViewed (Rattle.std.specs.Prelude.option_map remaining image) sight mid d
    → AreViewed gives remaining shelf number (sights ++ sight ∷ []) c last d
viewed_more gives remaining shelf number [] c left mid sight image last d (same, found) g viewed =
    let at : number + 0 ≡ number = omega arith in
    let given = subst (λ n. gives left n image last) at g in (
      image,
      last,
      d,
      subst (λ z. gives z number image last) same given,
      subst (λ f. IsViewed (Rattle.std.specs.Prelude.option_map remaining image) sight f d) found
          viewed,
      (refl, refl),
    )
viewed_more gives remaining shelf number (s ∷ sights) c left mid sight image last d
    (i, z, m, gave, was, are) g viewed =
    let at : number + length (s ∷ sights) ≡ number + 1 + length sights = omega arith in
    let given = subst (λ n. gives left n image last) at g in (
      i,
      z,
      m,
      gave,
      was,
      viewed_more gives remaining z (number + 1) sights m left mid sight image last d are given
          viewed,
    )
