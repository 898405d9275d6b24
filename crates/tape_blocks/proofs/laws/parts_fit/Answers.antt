use Rattle.tape_blocks.proofs.OwnLaws.{few_parts, short_parts}
use Rattle.tape_blocks.proofs.laws.parts_fit.Goals as goal

pub returns : goal.returns
returns c = λ block format rec_len offset parts some holds. (
  few_parts format rec_len offset block parts some holds,
  short_parts format rec_len offset block parts holds,
)
