use Rattle.std.proofs.Common.{◌≡◌, ◌-◌, ◌≤◌, length}
use Rattle.tape_stage.proofs.disk.file.FileDiskDisk.read.Given as goal

abbrev pub invariant-reads : goal.invariant-reads
invariant-reads g l = record {
  within : l.at ≤ length l.buf;
  same_size : length l.buf ≡ length l.fn.buf;
  same_length : l.self.len ≡ l.fn.self.len;
  calm : l.self.failed ≡ l.fn.self.failed;
  lost : l.self.lost ≡ l.fn.self.lost;
}

abbrev pub decreases-reads : goal.decreases-reads
decreases-reads g l = length l.buf - l.at
