use Rattle.std.proofs.Common.{◌∙◌, ap}
use Rattle.tape_run.specs.SurveyCopies.{Copied, copy_note, noted_at}
use Rattle.tape_run.proofs.survey.copies.Copies.note_of.Goals as goal

pub returns-in-Some : goal.returns-in-Some
returns-in-Some c =
    c.with_copy.ensures
    ∙ ap (λ n. copy_note n c.args.image c.args.entry.now c.args.digest)
    (c.in-Some.ensures.value
    ∙ ap (λ (m : Copied). noted_at m.notes c.args.key.now) c.self.view_is)
