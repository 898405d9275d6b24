use Rattle.std.proofs.Common.{◌≡◌, ◌++◌}
use Rattle.tape_tool.specs.Sums.{sums_text}
use Rattle.tape_tool.proofs.unpack.sums.Sums.text.Given as goal

abbrev pub invariant-loop-name : goal.invariant-loop-name
invariant-loop-name l =
    l.text.items ++ sums_text l.name-iterator ≡ sums_text l.fn.self.sums.entries
