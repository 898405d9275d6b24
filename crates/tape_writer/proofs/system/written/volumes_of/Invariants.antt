use Rattle.std.proofs.Common.{◌≡◌}
use Rattle.tape_writer.specs.Blank.{blank_volumes}
use Rattle.tape_writer.proofs.system.written.volumes_of.Given as goal

abbrev pub invariant-loop-before : goal.invariant-loop-before
invariant-loop-before l = l.volumes.items ≡ blank_volumes l.prefix.characters l.before
