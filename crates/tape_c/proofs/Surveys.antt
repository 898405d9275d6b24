-- Surveys in a buffer.
use Rattle.std.proofs.Common.{◌≡◌, ℕ, Bool, if◌then◌else◌, List, [], subst}
use Rattle.tape_c.specs.{declared.end.End.End, Ends.Gives}
use Rattle.tape_c.specs.Surveyed.{SurveysTo, SurveysInto, given}

pub surveys_given : (images : List (List ℕ)) (before text shown old new : List ℕ) (end : End)
    (all : Bool) → before ≡ [] → shown ≡ text → SurveysTo images before text all
    → Gives shown 0 (if all then 0 else 8) old new end → SurveysInto images old new end
surveys_given images before text shown old new end all none same s g =
    given text all (subst (λ (b : List ℕ). SurveysTo images b text all) none s)
    (subst (λ (t : List ℕ). Gives t 0 (if all then 0 else 8) old new end) same g)
