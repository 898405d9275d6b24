use Rattle.std.proofs.Common.{Ok, ap, ◌∙◌, arith, refl}
use Rattle.tape_image.specs.Reader.{tape_item, ending_of}
use Rattle.tape_image.proofs.Callers.{gave, met_end, met_fault, same_some}
use Rattle.tape_run.specs.{Added.stop_at, Passing.blocks_of}
use Rattle.tape_run.proofs.NotedSoFar.{one_more, at_end, at_fault, one_block}
use Rattle.tape_image.proofs.Steps.{least_four}
use Rattle.tape_run.proofs.catalogue.add_items.Goals as goal

pub items-preserved : goal.items-preserved
items-preserved g c =
    let next = c.next.follows.lender-at-none in
    let item = tape_item c.in-Ok-Some.item in
    let step = gave c.items.image _ next c.in-Ok-Some.item c.next.follows.holds-at-none
    c.items.invariant.on (c.in-Ok-Some.is ∙ ap Ok c.in-Ok-Some.field-0-is) in
    let phase = c.in_ok-phase-in-Ok-Some.ensures.phase in
    record {
      on = step.goes_on;
      limit = step.within;
      few = omega (arith, step.extent, c.items.invariant.few, least_four item);
      blocks =
          omega (arith, ap blocks_of phase, one_block c.items.phase item, c.items.invariant.blocks);
      same_device = c.next.follows.holds-at-none.same_device ∙ c.items.invariant.same_device;
      so_far = one_more _ c.items.image.left next.left c.items.image.place next.place c.items.items
          item _ c.items.phase _ _ _ c.items.invariant.so_far step.takes phase
          c.in_ok-phase-in-Ok-Some.ensures.ok;
    }

pub returns-in-Ok-None-clause-ok : goal.returns-in-Ok-None-clause-ok
returns-in-Ok-None-clause-ok g c =
    let next = c.next.follows.lender-at-none in
    let met = met_end _ _ next c.next.follows.holds-at-none c.items.invariant.on
    (c.in-Ok-None.is ∙ ap Ok c.in-Ok-None.field-0-is) in
    let ending = same_some _ met.ending _ c.in-Some.is (c.ending.ensures ∙ ap ending_of met.ended)
    in
    at_end _ _ next.left _ next.place _ met.ending _ _ _ _ _ c.items.invariant.so_far met.takes
    c.in_ok-close-in-Ok-None.ensures.ok refl (c.stop_at-stop.ensures ∙ ap stop_at ending)

pub returns-in-Err-clause-ok : goal.returns-in-Err-clause-ok
returns-in-Err-clause-ok g c =
    let next = c.next.follows.lender-at-none in
    let met = met_fault _ _ next _ c.next.follows.holds-at-none c.items.invariant.on c.in-Err.is in
    at_fault _ _ next.left _ _ _ _ _ _ _ _ c.items.invariant.so_far met.takes
    c.in_ok-close-in-Err.ensures.ok refl refl
