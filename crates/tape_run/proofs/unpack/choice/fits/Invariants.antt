use Rattle.std.proofs.Common.{◌+◌, ◌*◌, length}
use Rattle.tape_run.proofs.Patterns.{Tried}
use Rattle.tape_run.proofs.unpack.choice.fits.Given as goal

abbrev pub invariant-characters : goal.invariant-characters
invariant-characters l = Tried l.pattern l.word l.after l.from l.left l.rest

abbrev pub decreases-characters : goal.decreases-characters
decreases-characters l = length l.after
    * ((length l.fn.word + 1) * (length l.fn.pattern + 1) + 1)
    + (length l.from * (length l.fn.pattern + 1) + length l.left)
