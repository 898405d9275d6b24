use Rattle.tape_core.proofs.NormalForm.Holding.{label_block}
use Rattle.tape_core.proofs.normal.held.Held.put.Goals as goal

pub returns : goal.returns
returns c = rw c.copy_from_slice.ensures.after (label_block c.args.label.now _ c.told-label)
