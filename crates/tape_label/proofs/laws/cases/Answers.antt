use Rattle.std.proofs.Common.{refl}
use Rattle.tape_label.proofs.laws.cases.Goals as goal

pub returns-clause-both : goal.returns-clause-both
returns-clause-both c = λ law. law 0 0 refl refl
