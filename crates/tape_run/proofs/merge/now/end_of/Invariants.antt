use Rattle.tape_run.proofs.MergeReports.{EndsSoFar}
use Rattle.tape_run.proofs.merge.now.end_of.Given as goal

abbrev pub invariant-loop-reading : goal.invariant-loop-reading
invariant-loop-reading g l = EndsSoFar l.items l.reading-index l.readings l.end
