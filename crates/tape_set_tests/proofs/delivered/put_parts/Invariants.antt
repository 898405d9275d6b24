use Rattle.std.proofs.Common.{◌≡◌, ◌++◌, drop}
use Rattle.tape_set_tests.proofs.delivered.put_parts.Given as goal

abbrev pub invariant-loop-one : goal.invariant-loop-one
invariant-loop-one l = l.parts.items ++ drop l.one-index l.more ≡ l.fn.parts.items ++ l.fn.more
