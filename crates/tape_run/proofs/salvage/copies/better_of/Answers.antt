use Rattle.std.proofs.Common.{subst, arith}
use Rattle.tape_run.specs.SalvageChoice.{IsBest}
use Rattle.tape_run.proofs.SalvageChoice.{still_best, new_best}
use Rattle.tape_run.proofs.salvage.copies.better_of.Goals as goal

pub returns-then-rank : goal.returns-then-rank
returns-then-rank c = λ cs h. still_best cs _ _ (omega
    (arith, c.rank.ensures, c.rank-in-Some.ensures, c.if-rank.true))
    (subst (IsBest cs) c.in-Some.is h)

pub returns-else-rank : goal.returns-else-rank
returns-else-rank c = λ cs h. new_best cs _ _ (omega (
  arith,
  c.rank.ensures,
  c.rank-in-Some.ensures,
  c.if-rank.false,
)) (subst (IsBest cs) c.in-Some.is h)
