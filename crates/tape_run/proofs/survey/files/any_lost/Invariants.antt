use Rattle.std.proofs.Common.{◌≡◌}
use Rattle.tape_run.specs.SurveyFiles.{any_lost}
use Rattle.tape_run.proofs.survey.files.any_lost.Given as goal

abbrev pub invariant-loop-note : goal.invariant-loop-note
invariant-loop-note l = any_lost l.note-iterator ≡ any_lost l.files.entries
