use Rattle.std.proofs.Common.{take}
use Rattle.tape_run.proofs.SalvageChoice.{IsChoice}
use Rattle.tape_run.proofs.salvage.copies.best_copy.Given as goal

abbrev pub invariant-loop-copy : goal.invariant-loop-copy
invariant-loop-copy l = IsChoice l.sect (take l.copy-index l.copies) l.best l.last
