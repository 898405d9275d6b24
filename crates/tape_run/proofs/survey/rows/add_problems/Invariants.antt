use Rattle.std.proofs.Common.{◌≡◌, ◌++◌, drop, flat_map}
use Rattle.tape_run.specs.SurveyRows.{problem_cell}
use Rattle.tape_run.proofs.survey.rows.add_problems.Given as goal

abbrev pub invariant-loop-problem : goal.invariant-loop-problem
invariant-loop-problem l =
    l.rows.items ++ flat_map problem_cell (drop l.problem-index l.problem-items)
    ≡ l.fn.rows.items ++ flat_map problem_cell l.problem-items
