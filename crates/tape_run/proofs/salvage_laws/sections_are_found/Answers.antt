use Rattle.tape_run.proofs.SalvageFound.{finds_section}
use Rattle.tape_run.proofs.salvage_laws.sections_are_found.Goals as goal

pub returns : goal.returns
returns c = finds_section
