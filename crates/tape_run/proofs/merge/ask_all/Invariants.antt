use Rattle.std.proofs.Common.{◌≤◌, None}
use Rattle.tape_run.proofs.MergeRounds.{AskedFirst}
use Rattle.tape_run.proofs.merge.ask_all.Given as goal

-- the number of readings that were asked
abbrev pub invariant-loop-number : goal.invariant-loop-number
invariant-loop-number g l = record {
  asked : AskedFirst l.number l.fn.readings l.readings None l.best None l.other l.witnesses;
  few : l.witnesses ≤ l.number;
}
