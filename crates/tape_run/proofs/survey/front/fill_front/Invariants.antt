use Rattle.std.proofs.Common.{◌-◌, ◌≤◌, length, take}
use Rattle.std.specs.Io.KnownBytes.{Consumes}
use Rattle.tape_run.proofs.survey.front.fill_front.Given as goal

abbrev pub invariant-reads : goal.invariant-reads
invariant-reads g l = record {
  within : l.at ≤ length l.buffer;
  taken : Consumes (g.R.Read.remaining l.fn.reader) (g.R.Read.remaining l.reader)
      (take l.at l.buffer);
}

abbrev pub decreases-reads : goal.decreases-reads
decreases-reads g l = length l.initial.buffer - l.at
