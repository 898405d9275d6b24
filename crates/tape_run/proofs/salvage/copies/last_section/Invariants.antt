use Rattle.std.proofs.Common.{◌≡◌, take}
use Rattle.tape_run.specs.SalvageChoice.{last_section}
use Rattle.tape_run.proofs.salvage.copies.last_section.Given as goal

abbrev pub invariant-loop-copy : goal.invariant-loop-copy
invariant-loop-copy l = l.last ≡ last_section (take l.copy-index l.copies)
