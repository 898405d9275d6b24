use Rattle.tape_run.proofs.WholeReports.{whole_told}
use Rattle.tape_run.proofs.laws.whole_sets_are_told.Goals as goal

pub returns : goal.returns
returns c = whole_told
