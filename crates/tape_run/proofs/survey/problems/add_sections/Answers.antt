use Rattle.std.proofs.Common.{◌≡◌, suc, ◌+◌, ◌-◌, append_assoc, arith}
use Rattle.tape_run.proofs.survey.problems.add_sections.Goals as goal

pub loop-before-preserved : goal.loop-before-preserved
loop-before-preserved c =
    let left = c.args.most - (c.loop-before.before + 1) in
    let one : c.args.most - c.loop-before.before ≡ suc left =
    omega (arith, c.loop-before-test.true) in
    record {
      few = omega (arith, c.in_ok-first.ensures.few);
      problems = rw (c.in_ok-first.ensures.next, c.in_ok-first.ensures.problems, append_assoc)
          (rw one at c.loop-before.invariant.problems);
    }
