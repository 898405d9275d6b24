use Rattle.std.proofs.Common.{◌≡◌, suc, ◌+◌, ◌-◌, append_assoc, arith}
use Rattle.tape_run.proofs.survey.rows.add_set.Goals as goal

pub loop-before-preserved : goal.loop-before-preserved
loop-before-preserved c =
    let left = c.args.greatest - (c.loop-before.before + 1) in
    let one : c.args.greatest - c.loop-before.before ≡ suc left =
    omega (arith, c.loop-before-test.true) in
    rw (c.in_ok-add_found.ensures, append_assoc) (rw one at c.loop-before.invariant)
