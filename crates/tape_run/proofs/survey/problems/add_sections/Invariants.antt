use Rattle.std.proofs.Common.{◌≡◌, ◌++◌, ◌+◌, ◌-◌, ◌≤◌}
use Rattle.tape_run.specs.SurveyProblems.{problems_from}
use Rattle.tape_run.proofs.survey.problems.add_sections.Given as goal

abbrev pub invariant-loop-before : goal.invariant-loop-before
invariant-loop-before l = record {
  few : l.first ≤ l.before + 1;
  problems : l.problems.items ++ problems_from l.sections.entries l.set_id l.file l.first
      (l.before + 1)
      (l.most - l.before)
      ≡ l.fn.problems.items ++ problems_from l.sections.entries l.set_id l.file 1 1 l.most;
}
