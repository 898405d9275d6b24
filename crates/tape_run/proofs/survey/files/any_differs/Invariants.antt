use Rattle.std.proofs.Common.{◌≡◌}
use Rattle.tape_run.specs.SurveyFiles.{any_differs}
use Rattle.tape_run.proofs.survey.files.any_differs.Given as goal

abbrev pub invariant-loop-note : goal.invariant-loop-note
invariant-loop-note l = any_differs l.note-iterator ≡ any_differs l.files.entries
