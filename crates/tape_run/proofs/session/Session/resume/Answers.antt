use Rattle.std.proofs.Common.{ap, ◌∙◌}
use Rattle.tape_core.specs.Place.{rest_of}
use Rattle.tape_run.proofs.Begin.{is_resumed}
use Rattle.tape_run.proofs.session.Session.resume.Goals as goal

pub returns-clause-session : goal.returns-clause-session
returns-clause-session g c = λ set held s.
    is_resumed set c.args.point.now (rest_of c.over.result.core) c.over.result.failures
    (g.S.PartSink.refusals c.over.result.sink) c.over.result.wide c.over.result.notes held
    (c.over.ensures.place ∙ ap rest_of c.at.ensures) c.over.ensures.notes s
