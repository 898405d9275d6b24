use Rattle.std.proofs.Common.{◌≡◌, ◌+◌, Ok, Err, ap, subst, ◌∙◌, arith, rules}
use Rattle.tape_image.specs.{Reader.tape_item, Reader.ending_of, Written.AppendsFront}
use Rattle.tape_image.proofs.Callers.{gave, met_end, met_fault, same_some}
use Rattle.tape_image.proofs.Steps.{least_four}
use Rattle.tape_run.specs.{declared.fault.ListFault.TheVariants.WriteFailed}
use Rattle.tape_run.proofs.ListedSoFar.{line_is, one_more, ends_at, stops_at_item, stops_at_end}
use Rattle.tape_run.proofs.ListedSoFar.{stops_at_fault, write_failed}
use Rattle.tape_run.proofs.list.list_items.Goals as goal

pub items-preserved : goal.items-preserved
items-preserved g c =
    let next = c.next.follows.lender-at-none in
    let item = tape_item c.in-Ok-Some.item in
    let step = gave c.items.image _ next c.in-Ok-Some.item c.next.follows.holds-at-none
    c.items.invariant.on (c.in-Ok-Some.is ∙ ap Ok c.in-Ok-Some.field-0-is) in
    let text = line_is c.args.offsets c.unwrap_or-size.result c.place-behind.result c.items.from
    c.items.image.place next.place (c.items.number + 1) c.extent_of-extent.result item
    c.deref.result.now (search rules) c.extent_of-extent.ensures c.place-behind.ensures
    c.items.invariant.here (search rules) in
    record {
      on = step.goes_on;
      limit = step.within;
      few = omega (arith, step.extent, c.items.invariant.few, least_four item);
      here = c.place-behind.ensures;
      same_device = c.next.follows.holds-at-none.same_device ∙ c.items.invariant.same_device;
      so_far = one_more _ _ c.items.image.left next.left c.items.image.place next.place
          c.items.number item _ _ _ c.items.invariant.so_far step.takes
          (rw text at c.in_ok-write_shown-in-Ok-Some.ensures.ok);
    }

pub returns-in_err-write_shown-in-Ok-Some-clause-fault :
    goal.returns-in_err-write_shown-in-Ok-Some-clause-fault
returns-in_err-write_shown-in-Ok-Some-clause-fault g c =
    let next = c.next.follows.lender-at-none in
    let item = tape_item c.in-Ok-Some.item in
    let step = gave c.items.image _ next c.in-Ok-Some.item c.next.follows.holds-at-none
    c.items.invariant.on (c.in-Ok-Some.is ∙ ap Ok c.in-Ok-Some.field-0-is) in
    let text = line_is c.args.offsets c.unwrap_or-size.result c.place-behind.result c.items.from
    c.items.image.place next.place (c.items.number + 1) c.extent_of-extent.result item
    c.deref.result.now (search rules) c.extent_of-extent.ensures c.place-behind.ensures
    c.items.invariant.here (search rules) in
    let part = subst (AppendsFront (g.W.Write.contents c.items.writer)
    (g.W.Write.contents c.write_shown.new.writer)) text
    c.in_err-write_shown-in-Ok-Some.ensures.err in
    let failed : c.from_residual.result ≡ Err WriteFailed = search rules in
    write_failed _ _ _ _ _ _ failed
    (stops_at_item _ _ c.items.image.left next.left c.items.image.place next.place c.items.number
    item _ _ _ c.items.invariant.so_far step.within step.takes part)

pub returns-in_err-write_end-in-Ok-None-clause-fault :
    goal.returns-in_err-write_end-in-Ok-None-clause-fault
returns-in_err-write_end-in-Ok-None-clause-fault g c =
    let next = c.next.follows.lender-at-none in
    let met = met_end c.items.image _ next c.next.follows.holds-at-none c.items.invariant.on
    (c.in-Ok-None.is ∙ ap Ok c.in-Ok-None.field-0-is) in
    let ending = same_some c.in-Some.ending met.ending c.ending.result c.in-Some.is
    (c.ending.ensures ∙ ap ending_of met.ended) in
    let part = rw (c.place.ensures, ending) at c.in_err-write_end-in-Ok-None.ensures.err in
    let failed : c.from_residual-in_err-write_end-in-Ok-None.result ≡ Err WriteFailed =
    search rules in
    write_failed _ _ _ _ _ _ failed
    (stops_at_end _ _ c.items.image.left next.left c.items.image.place next.place c.items.number
    met.ending _ _ _ c.items.invariant.so_far met.takes part)

pub returns-in-Ok-None-clause-ok : goal.returns-in-Ok-None-clause-ok
returns-in-Ok-None-clause-ok g c =
    let next = c.next.follows.lender-at-none in
    let met = met_end c.items.image _ next c.next.follows.holds-at-none c.items.invariant.on
    (c.in-Ok-None.is ∙ ap Ok c.in-Ok-None.field-0-is) in
    let ending = same_some c.in-Some.ending met.ending c.ending.result c.in-Some.is
    (c.ending.ensures ∙ ap ending_of met.ended) in
    let line = rw (c.place.ensures, ending) at c.in_ok-write_end-in-Ok-None.ensures.ok in
    ends_at _ _ c.items.image.left next.left c.items.image.place next.place c.items.number
    met.ending _ _ _ c.items.invariant.so_far met.takes line

pub returns-in_err-flush-in-Err-clause-fault : goal.returns-in_err-flush-in-Err-clause-fault
returns-in_err-flush-in-Err-clause-fault g c =
    let next = c.next.follows.lender-at-none in
    let met = met_fault c.items.image _ next c.in-Err.fault c.next.follows.holds-at-none
    c.items.invariant.on c.in-Err.is in
    let failed : c.from_residual-in_err-flush-in-Err.result ≡ Err WriteFailed =
    search rules in
    write_failed _ _ _ _ _ _ failed
    (stops_at_fault _ _ c.items.image.left next.left c.items.image.place c.items.number
    c.in-Err.fault _ _ _ c.items.invariant.so_far c.items.invariant.limit met.takes
    c.flush.ensures.kept)
