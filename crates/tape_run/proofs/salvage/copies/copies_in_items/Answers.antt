use Rattle.std.proofs.Common.{◌++◌, Ok, ap, ◌∙◌}
use Rattle.tape_image.specs.Reader.{ending_of}
use Rattle.tape_image.proofs.Callers.{gave, met_end, met_fault, same_some}
use Rattle.tape_run.specs.{SalvageWalk.in_list, SalvageCopies.of_file, Added.stop_at}
use Rattle.tape_run.proofs.SalvageSeen.{one_more, at_end, at_fault}
use Rattle.tape_run.proofs.salvage.copies.copies_in_items.Goals as goal

pub items-preserved : goal.items-preserved
items-preserved g c =
    let next = c.next.follows.lender-at-none in
    let step = gave _ _ next _ c.next.follows.holds-at-none c.items.invariant.on
    (c.in-Ok-Some.is ∙ ap Ok c.in-Ok-Some.field-0-is) in
    record {
      on = step.goes_on;
      limit = step.within;
      same_device = c.next.follows.holds-at-none.same_device ∙ c.items.invariant.same_device;
      so_far = one_more _ _ _ _ _ next.left _ next.place _ _ _ _ _ _ _ _ c.items.invariant.so_far
          step.takes (ap (λ r. r.0) c.step-next.ensures) c.saturating_add-read.ensures
          (c.in_ok-add_copy-in-Ok-Some.ensures.ok ∙ ap (λ r. c.items.copies.items ++ of_file
          c.args.set_id.now c.args.file c.args.number (in_list c.items.read r.1))
          c.step-next.ensures);
    }

pub returns-in-Ok-None-clause-ok : goal.returns-in-Ok-None-clause-ok
returns-in-Ok-None-clause-ok g c =
    let next = c.next.follows.lender-at-none in
    let met = met_end _ _ next c.next.follows.holds-at-none c.items.invariant.on
    (c.in-Ok-None.is ∙ ap Ok c.in-Ok-None.field-0-is) in
    let ending = same_some _ met.ending _ c.in-Some.is (c.ending.ensures ∙ ap ending_of met.ended)
    in
    at_end _ _ _ _ _ next.left _ next.place met.ending
    _ _ _ _ _ c.items.invariant.so_far met.takes (c.in_ok-add_copy-in-Ok-None.ensures.ok
    ∙ ap (λ o. c.items.copies.items ++ of_file c.args.set_id.now c.args.file c.args.number
    (in_list c.items.read o)) c.open_section.ensures) _ (c.stop_at.ensures ∙ ap stop_at ending)

pub returns-in-Err-clause-ok : goal.returns-in-Err-clause-ok
returns-in-Err-clause-ok g c =
    let next = c.next.follows.lender-at-none in
    let met = met_fault _ _ next _ c.next.follows.holds-at-none c.items.invariant.on c.in-Err.is in
    at_fault _ _ _ _ _ next.left _ _ _ _ _ _ _
    c.items.invariant.so_far met.takes (c.in_ok-add_copy-in-Err.ensures.ok
    ∙ ap (λ o. c.items.copies.items ++ of_file c.args.set_id.now c.args.file c.args.number
    (in_list c.items.read o)) c.open_section-in-Err.ensures)
