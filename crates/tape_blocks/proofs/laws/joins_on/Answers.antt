use Rattle.std.proofs.Common.{None}
use Rattle.tape_blocks.proofs.JoinLaws.{join-append}
use Rattle.tape_blocks.proofs.laws.joins_on.Goals as goal

pub returns : goal.returns
returns c = λ ps qs. join-append None ps qs
