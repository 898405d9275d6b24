use Rattle.std.proofs.Common.{◌≡◌, ◌++◌, filter}
use Rattle.tape_tool.specs.Names.{is_name}
use Rattle.tape_tool.proofs.names.all_names.Given as goal

abbrev pub invariant-loop-piece : goal.invariant-loop-piece
invariant-loop-piece l = l.names.items
    ≡ l.fn.words ++ filter (λ p. is_name p.now) l.yielded
