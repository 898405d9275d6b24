use Rattle.std.proofs.Common.{◌≡◌}
use Rattle.tape_run.specs.SurveySets.{none_follows}
use Rattle.tape_run.proofs.survey.strays.none_follows.Given as goal

abbrev pub invariant-loop-key : goal.invariant-loop-key
invariant-loop-key l =
    none_follows l.sections.entries l.key-iterator
    ≡ none_follows l.sections.entries l.sections.entries
