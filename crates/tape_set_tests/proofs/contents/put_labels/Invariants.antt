use Rattle.std.proofs.Common.{◌≡◌, ◌++◌, drop}
use Rattle.std.specs.Prelude.{map}
use Rattle.tape_set.specs.Layout.{a_label}
use Rattle.tape_set_tests.specs.Contents.{entries_told}
use Rattle.tape_set_tests.proofs.contents.put_labels.Given as goal

abbrev pub invariant-loop-label : goal.invariant-loop-label
invariant-loop-label l =
    entries_told l.entries.items ++ map a_label (drop l.label-index l.labels)
    ≡ entries_told l.fn.entries.items ++ map a_label l.fn.labels
