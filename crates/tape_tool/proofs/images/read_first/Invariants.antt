use Rattle.std.proofs.Common.{◌≤◌, length}
use Rattle.tape_tool.proofs.images.read_first.Given as goal

abbrev pub invariant-reads : goal.invariant-reads
invariant-reads g l = l.count ≤ length l.buf
