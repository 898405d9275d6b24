use Rattle.std.proofs.Common.{rules}
use Rattle.tape_run.proofs.SalvageChoice.{last_up_to}
use Rattle.tape_run.proofs.salvage.copies.last_section.Goals as goal

pub loop-copy-preserved : goal.loop-copy-preserved
loop-copy-preserved c = last_up_to _ _ _ _ _ (search rules) c.copy-item.is c.loop-copy.invariant
    (search rules)
