use Rattle.std.proofs.Common.{◌≡◌, ◌++◌}
use Rattle.tape_run.specs.Unpacking.{set_files, files_of}
use Rattle.tape_run.proofs.unpack.files_of.Given as goal

abbrev pub invariant-loop-set_id : goal.invariant-loop-set_id
invariant-loop-set_id l =
    l.files.items ++ set_files l.findings l.set_id-iterator ≡ files_of l.findings
