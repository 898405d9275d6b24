use Rattle.std.proofs.Common.{◌≡◌, ◌+◌, drop}
use Rattle.tape_set.specs.Reach.{good_run}
use Rattle.tape_set_tests.proofs.reach.good_run.Given as goal

abbrev pub invariant-loop-n : goal.invariant-loop-n
invariant-loop-n l = good_run l.fn.good ≡ l.n + good_run (drop l.n l.fn.good)
