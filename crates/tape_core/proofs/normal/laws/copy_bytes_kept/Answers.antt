use Rattle.tape_core.proofs.NormalForm.Kept.{copy_bytes_kept}
use Rattle.tape_core.proofs.normal.laws.copy_bytes_kept.Goals as goal

pub returns : goal.returns
returns c = copy_bytes_kept
