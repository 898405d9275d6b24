use Rattle.tape_run.proofs.SalvageFile.{recovers_file}
use Rattle.tape_run.proofs.salvage_laws.files_are_recovered.Goals as goal

pub returns : goal.returns
returns c = recovers_file
