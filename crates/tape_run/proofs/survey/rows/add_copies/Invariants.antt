use Rattle.std.proofs.Common.{◌≡◌, ◌++◌, map}
use Rattle.tape_run.specs.SurveyCompared.{copies_rows}
use Rattle.tape_run.proofs.survey.rows.add_copies.Given as goal

abbrev pub invariant-loop-key : goal.invariant-loop-key
invariant-loop-key l =
    l.rows.items ++ copies_rows (map (λ n. n.now) l.names) l.key-iterator
    ≡ l.fn.rows.items ++ copies_rows (map (λ n. n.now) l.names) l.notes.entries
