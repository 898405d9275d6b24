use Rattle.tape_run.proofs.SalvageDamagedSets.{closed_of_set_are_exact}
use Rattle.tape_run.proofs.SalvageFoundSets.{found_are_exact}
use Rattle.tape_run.proofs.salvage_laws.closed_sections_of_sets_are_exact.Goals as goal

pub returns-clause-readings : goal.returns-clause-readings
returns-clause-readings c = closed_of_set_are_exact

pub returns-clause-found : goal.returns-clause-found
returns-clause-found c = found_are_exact
