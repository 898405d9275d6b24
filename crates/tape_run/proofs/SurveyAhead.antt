-- An image of which the first bytes were read ahead.
use Rattle.std.proofs.Common.{◌≡◌, ℕ, List, ◌++◌, Option, Some, None, subst, sym, ap, ◌∙◌}
use Rattle.std.specs.Io.KnownBytes.{Consumes}
use Rattle.std.specs.Fmt.{option_append}
use Rattle.tape_run.specs.declared.survey.view.ImageSurvey.{ImageSurvey}
use Rattle.tape_run.specs.{SurveyRead.ViewsItems, SurveyFiles.Labelled, SurveyCopies.Copied}
use Rattle.tape_run.specs.{SurveyLocations.Located, Passing.Told}

-- what was read of the first bytes and the rest was read of the image
pub viewed_ahead : (all mid left after : Option (List ℕ)) (front : List ℕ) (image : ℕ)
    (sections : List Told) (files : Labelled) (located : List Located) (known : Copied)
    (sight : ImageSurvey) (told : List Told) (filed : Labelled) (locations : List Located)
    (copies : Copied) → Consumes all mid front → left ≡ option_append (Some front) mid
    → ViewsItems left after image sections files located known sight told filed locations copies
    → ViewsItems all after image sections files located known sight told filed locations copies
viewed_ahead None mid left after front image sections files located known sight told filed
    locations copies taken is v = record {
      items = v.items;
      stop = tt;
      glance = v.glance;
      damaged = v.damaged;
      noted = v.noted;
      named = v.named;
      places = v.places;
      copied = v.copied;
    }
viewed_ahead (Some xs) None left after front image sections files located known sight told filed
    locations copies taken is v = absurd taken
viewed_ahead (Some xs) (Some ys) left after front image sections files located known sight told
    filed locations copies taken is v = subst (λ l. ViewsItems l after image sections files located
    known sight told filed locations copies) (is ∙ ap (λ (l : List ℕ). Some l) (sym taken)) v
