use Rattle.tape_run.proofs.CopyDiffers.{no_copy_differs, no_copy_differs_first}
use Rattle.tape_run.proofs.copy_laws.no_copy_differs.Goals as goal

pub returns-clause-first : goal.returns-clause-first
returns-clause-first c = no_copy_differs_first

pub returns-clause-all : goal.returns-clause-all
returns-clause-all c = no_copy_differs
