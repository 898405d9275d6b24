use Rattle.tape_run.proofs.CopySurveys.{copies_never_conflict}
use Rattle.tape_run.proofs.copy_laws.copies_never_conflict.Goals as goal

pub returns : goal.returns
returns g c = copies_never_conflict _ _
