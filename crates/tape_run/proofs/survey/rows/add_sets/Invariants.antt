use Rattle.std.proofs.Common.{◌≡◌, ◌++◌, flat_map}
use Rattle.tape_run.specs.SurveyRows.{set_rows, sets_rows}
use Rattle.tape_run.proofs.survey.rows.add_sets.Given as goal

abbrev pub invariant-loop-set_id : goal.invariant-loop-set_id
invariant-loop-set_id l =
    l.rows.items ++ flat_map (set_rows l.findings) l.set_id-iterator
    ≡ l.fn.rows.items ++ sets_rows l.findings
