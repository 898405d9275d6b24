use Rattle.std.proofs.Common.{◌≡◌, [], refl, sym, ap, ◌∙◌}
use Rattle.std.proofs.lemmas.Result.{IfErr-weaker, on_ok_weaker}
use Rattle.tape_core.specs.{Memory.portions, Place.rest_of, declared.memory.MemorySink.MemorySink}
use Rattle.tape_run.proofs.whole.read_file.Goals as goal

pub returns-clause-read : goal.returns-clause-read
returns-clause-read g c = on_ok_weaker c.run-made.result (λ start bytes e.
    let empty : [] ≡ portions c.in_ok-session.session.sink =
    sym (ap portions c.in_ok-session.ensures.sink ∙ c.new-sink.ensures.empty) in
    let (now, has, reads) = start c.args.set_id c.args.file empty c.in_ok-session.ensures.start in
    let session = c.run-made.new.session in (
      record {
        place = rest_of session.core;
        parts = now;
        notes = session.notes;
        failures = session.failures;
        refusals = session.sink.refused;
        wide = session.wide;
      },
      has,
      refl,
      refl,
      refl,
      c.run-made.ensures.wide ∙ c.in_ok-session.ensures.strict,
      (reads bytes e).0,
    ))
    c.run-made.ensures.start

pub returns-clause-cause : goal.returns-clause-cause
returns-clause-cause g c = IfErr-weaker c.run-made.result _ _ (λ end stops. (
  c.in_ok-session.session,
  ap portions c.in_ok-session.ensures.sink ∙ c.new-sink.ensures.empty,
  ap (λ (sink : MemorySink). sink.refused) c.in_ok-session.ensures.sink ∙ c.new-sink.ensures.calm,
  c.in_ok-session.ensures.start.no_notes,
  c.in_ok-session.ensures.core,
  stops,
)) c.run-made.ensures.cause
