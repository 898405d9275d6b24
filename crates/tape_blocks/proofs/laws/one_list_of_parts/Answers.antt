use Rattle.tape_blocks.proofs.OwnLaws.{one_list}
use Rattle.tape_blocks.proofs.laws.one_list_of_parts.Goals as goal

pub returns : goal.returns
returns c = λ block format rec_len offset ps qs x y. one_list format rec_len offset block ps qs x y
