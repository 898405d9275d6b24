use Rattle.std.proofs.Common.{◌≡◌, ◌++◌, ◌+◌, drop}
use Rattle.tape_set.specs.Layout.{all_numbered, on, all_entries}
use Rattle.tape_set_tests.specs.Contents.{entries_told}
use Rattle.tape_set_tests.proofs.contents.put_files.Given as goal

abbrev pub invariant-loop-file : goal.invariant-loop-file
invariant-loop-file l =
    entries_told l.entries.items
    ++ all_entries (on l.volume (all_numbered (l.file-index + 1) (drop l.file-index l.files)))
    ≡ entries_told l.fn.entries.items ++ all_entries (on l.volume (all_numbered 1 l.fn.files))
