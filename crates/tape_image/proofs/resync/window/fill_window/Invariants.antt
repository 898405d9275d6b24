use Rattle.std.specs.Io.KnownBytes.{Keeps, prepend_known}
use Rattle.tape_image.proofs.resync.window.fill_window.Given as goal

abbrev pub invariant-bytes : goal.invariant-bytes
invariant-bytes g l =
    Keeps (prepend_known l.initial.held.items (g.R.Read.remaining l.initial.device))
    (prepend_known l.held.items (g.R.Read.remaining l.device))
