use Rattle.tape_core.proofs.NormalForm.Cut.{cut_bytes_kept}
use Rattle.tape_core.proofs.normal.laws.cut_bytes_kept.Goals as goal

pub returns : goal.returns
returns c = cut_bytes_kept
