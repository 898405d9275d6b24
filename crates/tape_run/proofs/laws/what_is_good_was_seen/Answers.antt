use Rattle.tape_run.proofs.WholeReports.{good_was_seen}
use Rattle.tape_run.proofs.laws.what_is_good_was_seen.Goals as goal

pub returns : goal.returns
returns c = good_was_seen
