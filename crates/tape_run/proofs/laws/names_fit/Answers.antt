use Rattle.tape_run.proofs.UnpackedFits.{names_fit}
use Rattle.tape_run.proofs.laws.names_fit.Goals as goal

pub returns : goal.returns
returns c = names_fit
