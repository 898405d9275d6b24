use Rattle.tape_run.proofs.MergeOpening.{mounts_more}
use Rattle.tape_run.proofs.merge.now.mount_all.Goals as goal

pub loop-number-preserved : goal.loop-number-preserved
loop-number-preserved g c =
    mounts_more _ _ _ _ _ _ _ _ _ c.loop-number.invariant c.in_ok-device.ensures.ok c.in-Some.is
    c.in-Ok.ensures.items
