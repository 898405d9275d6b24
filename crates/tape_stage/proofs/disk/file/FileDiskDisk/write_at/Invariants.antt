use Rattle.std.proofs.Common.{◌≡◌, length}
use Rattle.tape_stage.proofs.disk.file.FileDiskDisk.write_at.Given as goal

abbrev pub invariant-writes : goal.invariant-writes
invariant-writes g l = record {
  same_length : l.self.len ≡ l.fn.self.len;
  calm : l.self.failed ≡ l.fn.self.failed;
  lost : l.self.lost ≡ l.fn.self.lost;
}

abbrev pub decreases-writes : goal.decreases-writes
decreases-writes g l = length l.rest
