use Rattle.std.proofs.Common.{◌≡◌, drop}
use Rattle.tape_run.specs.MergeLog.{has_bad_verdict}
use Rattle.tape_run.proofs.merge.log.has_bad.Given as goal

-- no reading so far has a bad item
abbrev pub invariant-loop-reading : goal.invariant-loop-reading
invariant-loop-reading g l =
    has_bad_verdict l.readings ≡ has_bad_verdict (drop l.reading-index l.readings)
