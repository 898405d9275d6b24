use Rattle.std.proofs.Common.{◌≡◌, ◌++◌, ◌+◌, ◌-◌}
use Rattle.tape_run.specs.SurveyRows.{file_rows}
use Rattle.tape_run.proofs.survey.rows.add_set.Given as goal

abbrev pub invariant-loop-before : goal.invariant-loop-before
invariant-loop-before l =
    l.rows.items ++ file_rows l.findings l.set_id (l.before + 1) (l.greatest - l.before)
    ≡ l.fn.rows.items ++ file_rows l.findings l.set_id 1 l.greatest
