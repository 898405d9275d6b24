use Rattle.tape_run.proofs.Reporting.{ReadSoFar}
use Rattle.tape_run.proofs.check.check_to.Given as goal

abbrev pub invariant-loop-number : goal.invariant-loop-number
invariant-loop-number g l = ReadSoFar g.L.ImageSource.gives g.R.Read.remaining l.fn.images l.images
    l.number l.catalogue (g.P.Write.contents l.fn.report) (g.P.Write.contents l.report)
