use Rattle.std.proofs.Common.{◌≡◌, ◌-◌, ◌≤◌, length}
use Rattle.tape_blocks.specs.Spans.{join}
use Rattle.tape_stage.specs.{Disk.SameFact, Moments.Passes}
use Rattle.tape_stage.proofs.Remaining.{WalkedTo}
use Rattle.tape_stage.proofs.stage.frames.walk.Given as goal

abbrev pub invariant-loop-place : goal.invariant-loop-place
invariant-loop-place g l = record {
  low : 256 ≤ l.place;
  high : l.place ≤ l.limit;
  few : l.records ≤ l.place;
  long : g.D.Disk.length_of l.disk ≡ g.D.Disk.length_of l.fn.disk;
  faults : g.D.Disk.faults l.disk ≡ g.D.Disk.faults l.fn.disk;
  honest : SameFact (g.D.Disk.is_honest l.fn.disk) (g.D.Disk.is_honest l.disk);
  seen : g.D.Disk.is_honest l.fn.disk → g.D.Disk.seen l.disk ≡ g.D.Disk.seen l.fn.disk;
  moments : g.D.Disk.is_honest l.fn.disk → Passes g.D.Disk l.fn.disk l.disk
      (g.D.Disk.may_leave l.fn.disk);
  walked : g.D.Disk.is_honest l.fn.disk → (walked : WalkedTo l.place (g.D.Disk.seen l.fn.disk))
      × (l.records ≡ length (join walked.parts).records);
}

abbrev pub decreases-loop-place : goal.decreases-loop-place
decreases-loop-place g l = l.end - l.place
