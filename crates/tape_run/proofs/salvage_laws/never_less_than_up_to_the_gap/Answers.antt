use Rattle.tape_run.proofs.SalvageGrows.{never_less}
use Rattle.tape_run.proofs.salvage_laws.never_less_than_up_to_the_gap.Goals as goal

pub returns : goal.returns
returns c = never_less
