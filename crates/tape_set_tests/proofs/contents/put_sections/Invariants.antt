use Rattle.std.proofs.Common.{◌≡◌, ◌++◌, ◌+◌, ℕ, drop}
use Rattle.tape_set.specs.Layout.{numbered, on, all_entries}
use Rattle.tape_set_tests.specs.Contents.{entries_told}
use Rattle.tape_set_tests.proofs.contents.put_sections.Given as goal

abbrev pub invariant-loop-section : goal.invariant-loop-section
invariant-loop-section l = (file : ℕ)
    → entries_told l.entries.items ++ all_entries (on l.volume
    (numbered file (l.section-index + 1) (drop l.section-index l.sections)))
    ≡ entries_told l.fn.entries.items ++ all_entries (on l.volume (numbered file 1 l.fn.sections))
