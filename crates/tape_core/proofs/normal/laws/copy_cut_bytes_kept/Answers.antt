use Rattle.tape_core.proofs.NormalForm.Cut.{copy_cut_bytes_kept}
use Rattle.tape_core.proofs.normal.laws.copy_cut_bytes_kept.Goals as goal

pub returns : goal.returns
returns c = copy_cut_bytes_kept
