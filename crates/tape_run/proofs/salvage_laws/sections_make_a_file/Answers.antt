use Rattle.tape_run.proofs.SalvageFile.{recovers_blocks}
use Rattle.tape_run.proofs.salvage_laws.sections_make_a_file.Goals as goal

pub returns : goal.returns
returns c = recovers_blocks
