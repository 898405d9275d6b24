use Rattle.std.proofs.Common.{ap, sym, ◌∙◌}
use Rattle.tape_run.specs.Lacks.{key_at}
use Rattle.tape_run.specs.SurveyCopies.{Copied, noted_at, opponents_in, opponents_by}
use Rattle.tape_run.proofs.survey.copies.Copies.opponents.Goals as goal

pub returns-in-Some : goal.returns-in-Some
returns-in-Some c =
    let key = key_at c.args.key.now.set_id c.args.key.now.file c.in-Some.sect in
    c.opponents_of.ensures
    ∙ ap (λ n. opponents_by n) (c.copied.ensures ∙ c.get.ensures.value
    ∙ ap (λ (m : Copied). noted_at m.notes key) c.self.view_is)
    ∙ ap (λ d. opponents_in c.args.self.now.notes c.args.key.now d)
    (sym c.in-Some.is ∙ c.dispute.ensures)
