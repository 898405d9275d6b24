use Rattle.std.proofs.Common.{◌≡◌, ◌++◌, ◌+◌, ◌-◌}
use Rattle.tape_run.specs.Unpacking.{files_from}
use Rattle.tape_run.proofs.unpack.add_files.Given as goal

abbrev pub invariant-loop-before : goal.invariant-loop-before
invariant-loop-before l =
    l.files.items ++ files_from l.findings l.set_id (l.before + 1) (l.greatest - l.before)
    ≡ l.fn.files.items ++ files_from l.findings l.set_id 1 l.greatest
