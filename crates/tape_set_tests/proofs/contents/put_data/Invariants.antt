use Rattle.std.proofs.Common.{◌≡◌, ◌++◌, drop}
use Rattle.tape_set.specs.Layout.{data_group}
use Rattle.tape_set_tests.specs.Contents.{entries_told}
use Rattle.tape_set_tests.proofs.contents.put_data.Given as goal

abbrev pub invariant-loop-data : goal.invariant-loop-data
invariant-loop-data l =
    entries_told l.entries.items ++ data_group (drop l.data-index l.blocks)
    ≡ entries_told l.fn.entries.items ++ data_group l.fn.blocks
