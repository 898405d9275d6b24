use Rattle.std.proofs.Common.{◌≡◌}
use Rattle.tape_tool.proofs.json_rows.add_cells.Given as goal

abbrev pub invariant-loop-column : goal.invariant-loop-column
invariant-loop-column l = l.writer.before ≡ l.fn.writer.before
