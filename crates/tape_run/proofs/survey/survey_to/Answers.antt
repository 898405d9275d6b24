use Rattle.std.proofs.Common.{◌≡◌, ◌∙◌, sym, subst, map, inr}
use Rattle.std.proofs.lemmas.List.{length-map}
use Rattle.std.specs.Io.KnownBytes.{Appends}
use Rattle.tape_image.specs.Written.{AppendsFront}
use Rattle.tape_run.specs.SurveyRows.{survey_rows}
use Rattle.tape_run.proofs.SurveyDiffers.{conflicts_are_real, ends_are_real}
use Rattle.tape_run.proofs.{SurveySound.all_is_sound, SurveyDisputes.disputes_are_told}
use Rattle.tape_run.proofs.survey.survey_to.Goals as goal

pub returns-in-Ok-pass_on-clause-ok : goal.returns-in-Ok-pass_on-clause-ok
returns-in-Ok-pass_on-clause-ok g c =
    let names = map (λ x. x.now) c.args.names.now in
    let sights = c.in-Ok.sights.items in
    let found = c.read_images.new.findings in
    let viewed = c.in-Ok.ensures.viewed in
    let old = g.P.Write.contents c.args.report.now in
    let new = g.P.Write.contents c.pass_on.new.report in
    record {
      sights = sights;
      found = found;
      each = c.in-Ok.ensures.each ∙ sym (length-map c.args.names.now (λ x. x.now));
      viewed = viewed;
      text = c.in-Ok-survey_text.text.items;
      wrote = subst (Appends old new) c.as_slice-2.ensures.value c.in-Ok-pass_on.ensures.ok;
      rows = λ e. subst (λ l. c.in-Ok-survey_text.text.items ≡ survey_rows names l found)
          c.as_slice.ensures.value (c.in-Ok-survey_text.ensures.rows e);
      is_so = c.in-Ok-survey_text.ensures.all;
      sound = λ e. all_is_sound g.L.ImageSource.gives g.R.Read.remaining c.args.images.now
          c.read_images.new.images sights found viewed
          (sym c.in-Ok-survey_text.ensures.all ∙ e);
      conflicts = conflicts_are_real g.L.ImageSource.gives g.R.Read.remaining c.args.images.now
          c.read_images.new.images sights found viewed;
      ends = ends_are_real g.L.ImageSource.gives g.R.Read.remaining c.args.images.now
          c.read_images.new.images sights found viewed;
      disputes = disputes_are_told g.L.ImageSource.gives g.R.Read.remaining c.args.images.now
          c.read_images.new.images sights found viewed;
    }

pub returns-clause-front : goal.returns-clause-front
returns-clause-front g c =
    let names = map (λ x. x.now) c.args.names.now in
    let found = c.read_images.new.findings in
    let old = g.P.Write.contents c.args.report.now in
    let new = g.P.Write.contents c.pass_on.new.report in
    inr (record {
      sights = c.in-Ok.sights.items;
      found = found;
      each = c.in-Ok.ensures.each ∙ sym (length-map c.args.names.now (λ x. x.now));
      viewed = c.in-Ok.ensures.viewed;
      text = c.in-Ok-survey_text.text.items;
      wrote = subst (AppendsFront old new) c.as_slice-2.ensures.value c.in-Err.ensures.err;
      rows = λ e. subst (λ l. c.in-Ok-survey_text.text.items ≡ survey_rows names l found)
          c.as_slice.ensures.value (c.in-Ok-survey_text.ensures.rows e);
    })
