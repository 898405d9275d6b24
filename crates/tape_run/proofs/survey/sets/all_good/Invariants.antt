use Rattle.std.proofs.Common.{◌≡◌}
use Rattle.tape_run.specs.SurveySets.{all_good}
use Rattle.tape_run.proofs.survey.sets.all_good.Given as goal

abbrev pub invariant-loop-entry : goal.invariant-loop-entry
invariant-loop-entry l = all_good l.entry-iterator ≡ all_good l.sections.entries
