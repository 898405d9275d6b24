use Rattle.tape_core.proofs.Overlap.{trailers_end}
use Rattle.tape_core.proofs.laws.trailers_end.Goals as goal

pub returns : goal.returns
returns c = trailers_end
