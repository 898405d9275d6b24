use Rattle.std.proofs.Common.{◌≡◌}
use Rattle.tape_run.specs.SurveyFiles.{any_misfit}
use Rattle.tape_run.proofs.survey.fits.any_misfit.Given as goal

abbrev pub invariant-loop-note : goal.invariant-loop-note
invariant-loop-note l = any_misfit l.note-iterator ≡ any_misfit l.files.entries
