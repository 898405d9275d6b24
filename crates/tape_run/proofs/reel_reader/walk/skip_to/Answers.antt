use Rattle.std.proofs.Common.{◌≡◌, Ok, ap, ◌∙◌, arith}
use Rattle.tape_blocks.specs.Parts.{view}
use Rattle.tape_run.proofs.Walked.{walk_on}
use Rattle.tape_run.proofs.Comparing.{skipped_one, skipped_not, skipped_short}
use Rattle.tape_run.proofs.reel_reader.walk.skip_to.Goals as goal

pub parts-preserved : goal.parts-preserved
parts-preserved g c =
    let is = c.in-Ok-Some.is ∙ ap Ok c.in-Ok-Some.field-0-is in (
      walk_on _ _ _ _ _ is c.parts.invariant.0 c.next_part.follows.holds-at-none,
      skipped_one _ _ _ _ _ _ (view c.in-Ok-Some.part) c.parts.invariant.1
          (omega (arith, c.if-heavy-left.false))
          (λ xs at. rw is at (c.next_part.follows.holds-at-none.gives xs at)),
    )

pub returns-then-heavy-left-clause-no : goal.returns-then-heavy-left-clause-no
returns-then-heavy-left-clause-no g c =
    let is = c.in-Ok-Some.is ∙ ap Ok c.in-Ok-Some.field-0-is in
    skipped_not _ _ _ _ (view c.in-Ok-Some.part) _ c.parts.invariant.1
    (omega (arith, c.parts-test.true)) (omega (arith, c.if-heavy-left.true))
    (λ xs at. rw is at (c.next_part.follows.holds-at-none.gives xs at))

pub returns-in-Ok-None-clause-no : goal.returns-in-Ok-None-clause-no
returns-in-Ok-None-clause-no g c =
    let is = c.in-Ok-None.is ∙ ap Ok c.in-Ok-None.field-0-is in
    skipped_short _ _ _ _ c.parts.invariant.1 (omega (arith, c.parts-test.true))
    (λ xs at. (rw is at (c.next_part.follows.holds-at-none.gives xs at)).0)
