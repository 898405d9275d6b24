use Rattle.tape_run.proofs.SalvageImages.{FoundSoFar}
use Rattle.tape_run.proofs.salvage.find_copies.Given as goal

abbrev pub invariant-loop-number : goal.invariant-loop-number
invariant-loop-number g l = FoundSoFar g.L.ImageSource.gives g.R.Read.remaining l.task.set_id
    l.task.file
    l.fn.images l.images l.number l.copies.items (g.P.Write.contents l.fn.report)
    (g.P.Write.contents l.report)
