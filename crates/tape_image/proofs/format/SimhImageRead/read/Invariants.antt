use Rattle.std.proofs.Common.{◌≡◌, length}
use Rattle.std.specs.Io.KnownBytes.{Keeps}
use Rattle.tape_image.specs.FormatState.{simh_remaining}
use Rattle.tape_image.proofs.format.SimhImageRead.read.Given as goal

abbrev pub invariant-steps : goal.invariant-steps
invariant-steps g l = record {
  keeps : Keeps (simh_remaining g.R.Read.remaining l.initial.self)
      (simh_remaining g.R.Read.remaining l.self);
  size : length l.buf ≡ length l.initial.buf;
}
