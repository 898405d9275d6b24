use Rattle.std.proofs.Common.{rules, sym, ◌∙◌}
use Rattle.tape_run.proofs.ContainerSteps.{packs_on}
use Rattle.tape_run.proofs.container.records.has_packed.Goals as goal

pub headers-preserved : goal.headers-preserved
headers-preserved c = rw (c.read_u16-before.ensures, c.after_header-rest.ensures)
    (sym (packs_on c.headers.left c.headers.before c.headers.rest.now c.headers-test.true
    (search rules) (search rules)) ∙ c.headers.invariant)
