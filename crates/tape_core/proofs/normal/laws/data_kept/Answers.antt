use Rattle.tape_core.proofs.NormalForm.Data.{data_kept}
use Rattle.tape_core.proofs.normal.laws.data_kept.Goals as goal

pub returns : goal.returns
returns c = data_kept
