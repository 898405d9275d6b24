use Rattle.std.proofs.Common.{◌≡◌, drop}
use Rattle.tape_run.specs.SalvageChoice.{recorded_form}
use Rattle.tape_run.proofs.salvage.copies.recorded_form.Given as goal

abbrev pub invariant-loop-copy : goal.invariant-loop-copy
invariant-loop-copy l = recorded_form l.copies ≡ recorded_form (drop l.copy-index l.copies)
