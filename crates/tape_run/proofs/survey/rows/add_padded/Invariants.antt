use Rattle.std.proofs.Common.{◌≡◌, ◌++◌}
use Rattle.tape_run.specs.SurveyRows.{padded_rows}
use Rattle.tape_run.proofs.survey.rows.add_padded.Given as goal

abbrev pub invariant-loop-key : goal.invariant-loop-key
invariant-loop-key l =
    l.rows.items ++ padded_rows l.key-iterator
    ≡ l.fn.rows.items ++ padded_rows l.notes.entries
