use Rattle.std.proofs.Common.{[], refl, ap, ◌∙◌}
use Rattle.tape_core.specs.{Place.rest_of, State.State, Table.saved}
use Rattle.tape_tool.specs.Staging.{first_point}
use Rattle.tape_tool.proofs.Sessions.{stands_at}
use Rattle.tape_tool.proofs.staging.begin.Goals as goal

pub returns-in-Ok-new-clause-begins : goal.returns-in-Ok-new-clause-begins
returns-in-Ok-new-clause-begins g c honest =
    let made = c.in-Ok-create.ensures in
    let begun = c.in-Ok-new.ensures in
    stands_at (first_point c.args.set_id c.args.file) c.save.result [] c.in-Ok-new.session
    c.in-Ok-create.stage begun.sink
    (record {
      place = ap rest_of begun.core;
      parts = refl;
      notes = begun.start.no_notes;
      failures = begun.start.no_failures;
    })
    (c.save.ensures.value ∙ ap (λ (core : State). saved core 0) c.in-Ok.ensures.value)
    (made.holds honest) (made.returns honest) (made.survives honest) (made.ok honest).1.alive
    (g.met.D.Disk.only_now c.in-Ok-create.stage.disk)
