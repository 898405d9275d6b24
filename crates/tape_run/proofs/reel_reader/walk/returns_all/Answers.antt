use Rattle.std.proofs.Common.{◌≡◌, Bool, true, false, sym}
use Rattle.std.specs.Bool.{OnTrue, OnFalse}
use Rattle.tape_blocks.specs.{Parts.view, PartsLeft.parts_left}
use Rattle.tape_run.proofs.Walked.{Walked}
use Rattle.tape_run.proofs.Crashes.{adds_then}
use Rattle.tape_run.proofs.Comparing.{compared_one, compared_not, on_true, on_false, walked_on}
use Rattle.tape_run.proofs.reel_reader.walk.returns_all.Goals as goal

pub parts-preserved : goal.parts-preserved
parts-preserved g c =
    let inv = c.parts.invariant in (
      walked_on inv.0 c.in-Ok-true.ensures.kept c.in-Ok-true.ensures.crash
          c.in-Ok-true.ensures.calm,
      compared_one _ _ _ _ _ _ _ inv.1 c.in-Some.ensures.steps
          (on_true _ _ c.in-Ok-true.field-0-test c.in-Ok-true.ensures.yes),
    )

pub returns-in-Ok-false-clause-no : goal.returns-in-Ok-false-clause-no
returns-in-Ok-false-clause-no g c =
    compared_not _ _ _ _ _ _ c.parts.invariant.1 c.in-Some.ensures.steps
    (on_false _ _ c.in-Ok-false.field-0-test c.in-Ok-false.ensures.no)
