use Rattle.tape_run.proofs.UnpackedFiles.{ViewedSoFar}
use Rattle.tape_run.proofs.survey.view.read_images.Given as goal

abbrev pub invariant-loop-number : goal.invariant-loop-number
invariant-loop-number g l = ViewedSoFar g.L.ImageSource.gives g.R.Read.remaining l.fn.images
    l.images
    l.number l.findings l.sights.items
