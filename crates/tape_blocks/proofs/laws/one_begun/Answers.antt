use Rattle.tape_blocks.proofs.OwnLaws.{passes_for_one}
use Rattle.tape_blocks.proofs.laws.one_begun.Goals as goal

pub returns : goal.returns
returns c = λ block rec_len offset parts b d e f. passes_for_one rec_len offset block parts b d e f
