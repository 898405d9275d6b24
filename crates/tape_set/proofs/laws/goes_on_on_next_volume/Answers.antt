use Rattle.tape_set.proofs.AllVolumes.{goes_on_on_next}
use Rattle.tape_set.proofs.laws.goes_on_on_next_volume.Goals as goal

pub returns : goal.returns
returns c = goes_on_on_next
