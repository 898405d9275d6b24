use Rattle.std.proofs.Common.{◌≡◌, length}
use Rattle.tape_run.specs.SurveyCopies.{disputed_on}
use Rattle.tape_run.proofs.survey.copies.disputed_on.Given as goal

abbrev pub invariant-copies : goal.invariant-copies
invariant-copies l = disputed_on l.left l.image ≡ disputed_on l.copies l.image

abbrev pub decreases-copies : goal.decreases-copies
decreases-copies l = length l.left
