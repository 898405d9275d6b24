use Rattle.tape_core.proofs.Overlap.{certifies}
use Rattle.tape_core.proofs.laws.skipped_blocks_certify.Goals as goal

pub returns : goal.returns
returns c = certifies
