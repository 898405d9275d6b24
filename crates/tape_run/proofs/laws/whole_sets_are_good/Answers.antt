use Rattle.tape_run.proofs.WholeSets.{whole_set}
use Rattle.tape_run.proofs.laws.whole_sets_are_good.Goals as goal

pub returns : goal.returns
returns c = whole_set
