use Rattle.std.proofs.Common.{◌≡◌, ◌++◌, drop}
use Rattle.tape_blocks.specs.Tight.{parts_of_all}
use Rattle.tape_set_tests.proofs.delivered.put_blocks.Given as goal

abbrev pub invariant-loop-data : goal.invariant-loop-data
invariant-loop-data l = l.parts.items ++ parts_of_all (drop l.data-index l.blocks)
    ≡ l.fn.parts.items ++ parts_of_all l.fn.blocks
