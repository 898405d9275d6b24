use Rattle.std.proofs.Common.{sym, ◌∙◌}
use Rattle.tape_run.proofs.ContainerSteps.{walked_on}
use Rattle.tape_run.proofs.container.walk.Goals as goal

pub items-preserved : goal.items-preserved
items-preserved c = rw c.from-rest.ensures (sym (walked_on c.items.left c.items.block
    c.items.rest.now c.in-Some.len c.items-test.true (sym c.whole_len.ensures.is ∙ c.in-Some.is))
    ∙ c.items.invariant)
