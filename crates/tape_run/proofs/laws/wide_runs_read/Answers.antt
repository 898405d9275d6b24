use Rattle.tape_run.proofs.ReadableRuns.{wide_runs_read}
use Rattle.tape_run.proofs.laws.wide_runs_read.Goals as goal

pub returns : goal.returns
returns c = wide_runs_read
