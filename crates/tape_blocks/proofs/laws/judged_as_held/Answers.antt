use Rattle.std.proofs.Common.{refl}
use Rattle.tape_blocks.specs.Judged.{judged}
use Rattle.tape_blocks.proofs.OwnLaws.{judged_found, judged_only, answer_faults, judged_by_fault}
use Rattle.tape_blocks.proofs.laws.judged_as_held.Goals as goal

pub returns : goal.returns
returns c = λ format rec_len offset begun block some. (
  λ end e. judged_found format rec_len offset begun end block some e,
  λ end parts holds order. judged_only format rec_len offset begun end block parts holds order,
  answer_faults (judged format rec_len offset begun block) format rec_len offset begun
      block some refl,
  λ f has. judged_by_fault format rec_len offset begun block f some has,
)
