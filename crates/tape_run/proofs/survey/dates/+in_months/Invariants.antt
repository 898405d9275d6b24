use Rattle.std.proofs.Common.{length}
use Rattle.tape_run.proofs.survey.dates.+in_months.Given as goal

abbrev pub decreases-in_months : goal.decreases-in_months
decreases-in_months l = length l.lengths.now
