use Rattle.std.proofs.Common.{◌≡◌, ◌++◌, map}
use Rattle.tape_run.specs.Lacks.{line_of}
use Rattle.tape_run.proofs.report.check_set.Given as goal

abbrev pub invariant-loop-key : goal.invariant-loop-key
invariant-loop-key l =
    l.lines.items ++ map line_of l.key-iterator ≡ map line_of l.sections.entries
