use Rattle.tape_run.proofs.WholeVolumes.{whole_volume}
use Rattle.tape_run.proofs.laws.whole_volumes_make_sections_good.Goals as goal

pub returns : goal.returns
returns c = whole_volume
