use Rattle.tape_core.specs.Place.{rest_of}
use Rattle.tape_run.proofs.Begin.{is_start}
use Rattle.tape_run.proofs.session.Session.new.Goals as goal

pub returns-clause-start : goal.returns-clause-start
returns-clause-start g c =
    is_start c.args.set_id c.args.file c.in_ok-core.core (rest_of c.over.result.core)
    c.over.result.failures (g.S.PartSink.refusals c.over.result.sink) c.over.result.wide
    c.over.result.notes
    c.in_ok-core.ensures.value c.over.ensures.place c.over.ensures.notes c.over.ensures.failures
    c.in_ok-core.ensures.stands
