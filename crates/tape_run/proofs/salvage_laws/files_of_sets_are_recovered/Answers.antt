use Rattle.tape_run.proofs.{SalvageMost.none_has_more, SalvageSets.recovers_set}
use Rattle.tape_run.proofs.salvage_laws.files_of_sets_are_recovered.Goals as goal

pub returns-clause-recovers : goal.returns-clause-recovers
returns-clause-recovers c = recovers_set

pub returns-clause-most : goal.returns-clause-most
returns-clause-most c = none_has_more
