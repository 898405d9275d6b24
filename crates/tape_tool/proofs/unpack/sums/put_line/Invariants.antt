use Rattle.std.proofs.Common.{◌≡◌, take, flat_map}
use Rattle.tape_tool.specs.Sums.{escaped_byte}
use Rattle.tape_tool.proofs.unpack.sums.put_line.Given as goal

abbrev pub invariant-loop-byte : goal.invariant-loop-byte
invariant-loop-byte l = l.shown.items ≡ flat_map escaped_byte (take l.byte-index l.name)
