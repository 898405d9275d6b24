use Rattle.tape_run.proofs.SalvageRest.{rest_has_nothing}
use Rattle.tape_run.proofs.salvage_laws.the_rest_has_nothing_more.Goals as goal

pub returns : goal.returns
returns c = rest_has_nothing
