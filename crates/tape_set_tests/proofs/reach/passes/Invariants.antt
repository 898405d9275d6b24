use Rattle.std.proofs.Common.{◌≡◌, drop}
use Rattle.tape_set.specs.Reach.{passes}
use Rattle.tape_set_tests.specs.Contents.{entries_told}
use Rattle.tape_set_tests.proofs.reach.passes.Given as goal

abbrev pub invariant-loop-entry : goal.invariant-loop-entry
invariant-loop-entry l = passes l.behind (entries_told (drop l.entry-index l.past))
    ≡ passes l.fn.good (entries_told l.fn.past)
