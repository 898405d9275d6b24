use Rattle.tape_run.proofs.CopyAgrees.{each_item_agrees}
use Rattle.tape_run.proofs.copy_laws.each_item_agrees.Goals as goal

pub returns : goal.returns
returns c = each_item_agrees
