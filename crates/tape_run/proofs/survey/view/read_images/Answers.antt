use Rattle.tape_run.proofs.UnpackedFiles.{views_more}
use Rattle.tape_run.proofs.survey.view.read_images.Goals as goal

pub loop-number-preserved : goal.loop-number-preserved
loop-number-preserved g c =
    views_more _ _ _ _ _ _ _ _ _ _ _ _ c.in_ok-push.ensures.items c.loop-number.invariant
    c.in_ok-image.ensures.ok c.in_ok-sight.ensures.ok
