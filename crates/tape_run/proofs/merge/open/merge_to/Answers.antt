use Rattle.tape_run.proofs.MergeBytes.{ok_images, err_images}
use Rattle.tape_run.proofs.merge.open.merge_to.Goals as goal

pub returns-clause-ok : goal.returns-clause-ok
returns-clause-ok g c = ok_images _ _ _ _ _ _ _ c.merge_items.ensures.ok

pub returns-clause-fault : goal.returns-clause-fault
returns-clause-fault g c = err_images _ _ _ _ _ c.merge_items.ensures.fault
