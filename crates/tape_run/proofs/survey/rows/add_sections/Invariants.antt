use Rattle.std.proofs.Common.{◌≡◌, ◌++◌, flat_map}
use Rattle.tape_run.specs.SurveyRows.{section_row}
use Rattle.tape_run.proofs.survey.rows.add_sections.Given as goal

abbrev pub invariant-loop-key : goal.invariant-loop-key
invariant-loop-key l =
    l.rows.items ++ flat_map section_row l.key-iterator
    ≡ l.fn.rows.items ++ flat_map section_row l.sections.entries
