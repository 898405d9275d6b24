use Rattle.tape_run.proofs.CrashRuns.{goes_on}
use Rattle.tape_run.proofs.laws.resumed_goes_on.Goals as goal

pub returns : goal.returns
returns c = goes_on
