use mathlib.Core.List.{[]}
use base.Logic.{id⊢}
use contract.Monad.{fact_i}
use borrow.Fn.Refines.{by_parts}
use Rattle.tape_stage.specs.{Reads.StageGave, contracts.stage.Stage.the_row}
use Rattle.tape_stage.proofs.Resting.{rests_also}
use Rattle.tape_stage.proofs.stage.putting.StagePartWalk.TheImpl.Goals as goal

-- the trait asks only for what the stage returned
pub next_part-meets : goal.next_part-meets
next_part-meets g c = by_parts g.world.𝓤 [] [] _ _ _ _ (λ r e. []) (λ r e. []) _ _
    (fact_i g.world.𝓤 (Unit {0}) _ tt) (λ a. id⊢ g.world.𝓤 _)
    (λ r e. fact_i g.world.𝓤 (Unit {0}) _ tt)
    (λ r e a. rests_also g.world.𝓛 (the_row g.row.D g.D.Disk) c.args.self
    (StageGave c.args.self.now r) _ (λ new gave. gave.gave))
    (λ a. a) (λ a r e b. tt)
