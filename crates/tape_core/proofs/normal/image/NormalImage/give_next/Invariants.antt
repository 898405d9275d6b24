use Rattle.std.proofs.Common.{◌≡◌, length}
use Rattle.std.specs.Io.KnownBytes.{Keeps}
use Rattle.tape_core.specs.NormalForm.Image.{normal_remaining, steps_left}
use Rattle.tape_core.proofs.normal.image.NormalImage.give_next.Given as goal

abbrev pub invariant-steps : goal.invariant-steps
invariant-steps g l = record {
  keeps : Keeps (normal_remaining g.R.Read.remaining l.initial.self)
      (normal_remaining g.R.Read.remaining l.self);
  size : length l.buf ≡ length l.initial.buf;
}

abbrev pub decreases-steps : goal.decreases-steps
decreases-steps g l = steps_left l.self
