use Rattle.std.proofs.Common.{◌≡◌, drop}
use Rattle.tape_run.specs.SalvageChoice.{absent_form_in}
use Rattle.tape_run.proofs.salvage.copies.absent_form.Given as goal

abbrev pub invariant-loop-copy : goal.invariant-loop-copy
invariant-loop-copy l = absent_form_in l.copies ≡ absent_form_in (drop l.copy-index l.copies)
