use Rattle.std.proofs.Common.{ap, ◌∙◌}
use Rattle.tape_run.specs.declared.survey.view.Findings.TheInside.{Inside}
use Rattle.tape_run.specs.{SurveyRead.Found, SurveyFiles.note_at, SurveyFiles.file_key}
use Rattle.tape_run.specs.{SurveySets.flaw_by}
use Rattle.tape_run.proofs.survey.sets.flaw_in.Goals as goal

pub returns-in-Some : goal.returns-in-Some
returns-in-Some c =
    let key = file_key c.args.set_id c.args.file in
    c.flaw_of.ensures
    ∙ ap flaw_by (c.in-Some.ensures.value
    ∙ ap (λ (m : Inside). note_at m.files key) c.findings-inside.view_is
    ∙ ap (λ (d : Found). note_at d.files key) c.findings.view_is)
