use Rattle.tape_core.proofs.NormalForm.Kept.{bytes_kept}
use Rattle.tape_core.proofs.normal.laws.bytes_kept.Goals as goal

pub returns : goal.returns
returns c = bytes_kept
