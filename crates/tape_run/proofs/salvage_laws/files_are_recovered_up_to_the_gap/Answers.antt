use Rattle.tape_run.proofs.SalvageFile.{recovers_up_to_gap}
use Rattle.tape_run.proofs.salvage_laws.files_are_recovered_up_to_the_gap.Goals as goal

pub returns : goal.returns
returns c = recovers_up_to_gap
