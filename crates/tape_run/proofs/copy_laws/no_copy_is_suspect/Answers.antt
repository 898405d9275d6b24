use Rattle.tape_run.proofs.CopySuspects.{no_copy_is_suspect}
use Rattle.tape_run.proofs.copy_laws.no_copy_is_suspect.Goals as goal

pub returns : goal.returns
returns c = no_copy_is_suspect
