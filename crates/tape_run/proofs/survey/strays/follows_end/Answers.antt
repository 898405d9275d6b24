use Rattle.std.proofs.Common.{◌≡◌, suc, ◌+◌, ◌-◌, ◌∙◌, ◌||◌, sym, ap, arith}
use Rattle.tape_run.specs.SurveySets.{ends_among}
use Rattle.tape_run.proofs.survey.strays.follows_end.Goals as goal

pub loop-sect-preserved : goal.loop-sect-preserved
loop-sect-preserved c =
    let left = c.args.key.now.sect - (c.loop-sect.sect + 1) in
    let one : c.args.key.now.sect - c.loop-sect.sect ≡ suc left =
    omega (arith, c.loop-sect-test.true) in
    let was = rw one at c.loop-sect.invariant in
    let behind = ends_among c.args.sections.now.entries c.args.key.now.set_id
    c.args.key.now.file (c.loop-sect.sect + 1) left in
    sym (ap (λ a. a || behind) (sym c.is_end.ensures ∙ c.if-is_end.false)) ∙ was
