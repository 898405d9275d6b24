use Rattle.std.proofs.Common.{◌≡◌, ◌+◌, arith}
use Rattle.tape_run.proofs.Comparing.{front_none, front_one, front_not, on_true, on_false}
use Rattle.tape_run.proofs.Comparing.{walked_on, walked_none}
use Rattle.tape_run.proofs.reel_reader.walk.returns_front.Goals as goal

pub parts-init : goal.parts-init
parts-init g c = (walked_none _, front_none _ _ _)

pub parts-preserved : goal.parts-preserved
parts-preserved g c =
    let inv = c.parts.invariant in
    let some = c.parts-test.true in (
      walked_on inv.0 c.in-Ok-true.ensures.kept c.in-Ok-true.ensures.crash
          c.in-Ok-true.ensures.calm,
      front_one _ _ _ _ _ _ _ _ _ _ inv.1 (omega (arith, some)) c.in-Some.ensures.steps
          (on_true _ _ c.in-Ok-true.field-0-test c.in-Ok-true.ensures.yes),
    )

pub returns-in-Ok-false-clause-no : goal.returns-in-Ok-false-clause-no
returns-in-Ok-false-clause-no g c =
    let some = c.parts-test.true in
    front_not _ _ _ _ _ _ _ _ c.parts.invariant.1 (omega (arith, some)) c.in-Some.ensures.steps
    (on_false _ _ c.in-Ok-false.field-0-test c.in-Ok-false.ensures.no)
