use Rattle.std.proofs.Common.{◌≡◌, []}
use Rattle.tape_run.specs.Lacks.{sets_from}
use Rattle.tape_run.proofs.report.sets_of.Given as goal

abbrev pub invariant-loop-key : goal.invariant-loop-key
invariant-loop-key l =
    sets_from l.sets.entries l.key-iterator ≡ sets_from [] l.sections.entries
