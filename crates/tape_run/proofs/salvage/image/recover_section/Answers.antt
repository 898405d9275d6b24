use Rattle.std.proofs.Common.{Ok, ap, ◌∙◌, arith, refl}
use Rattle.tape_image.specs.Reader.{tape_item}
use Rattle.tape_image.proofs.{Callers.gave, Callers.met_end, Callers.met_fault, Pieces.on_err}
use Rattle.tape_run.proofs.SalvagedSoFar.{starts, one_more, ends_data, at_end, at_fault, numbered}
use Rattle.tape_run.proofs.SalvagedSoFar.{still_open, ends_at, stops_at}
use Rattle.tape_run.proofs.salvage.image.recover_section.Goals as goal

pub items-init : goal.items-init
items-init g c = record {
  on = c.requires.going;
  limit = omega (arith, c.requires.first);
  same_device = refl;
  so_far = starts _ c.args.image.now.left c.args.image.now.left c.args.image.now.place
      c.args.start c.args.key.now c.args.most c.args.form.now c.args.recovery.now
      (g.P.Write.contents c.args.report.now) c.requires.first refl;
  unended = refl;
}

pub returns-then-is_end-clause-ok : goal.returns-then-is_end-clause-ok
returns-then-is_end-clause-ok g c =
    let next = c.next.follows.lender-at-none in
    let item = tape_item c.in-Ok-Some.item in
    let step = gave c.items.image _ next c.in-Ok-Some.item c.next.follows.holds-at-none
    c.items.invariant.on (c.in-Ok-Some.is ∙ ap Ok c.in-Ok-Some.field-0-is) in
    let given = numbered g.W.Write.contents c.args.key.now c.args.most c.args.form.now
    c.items.expected
    c.number_in-number.result item c.items.recovery c.take_item.new.self
    (g.P.Write.contents c.items.report)
    (g.P.Write.contents c.take_item.new.report) c.number_in-number.ensures
    c.in_ok-take_item-in-Ok-Some.ensures.ok in
    let at = ends_at c.args.key.now c.items.expected item c.is_end.result c.is_end.ensures
    c.if-is_end.true in
    ends_data g.W.Write.contents c.args.image.now.left c.items.image.left next.left
    c.items.image.place next.place c.args.start c.args.key.now c.args.most c.args.form.now
    c.items.expected item c.args.recovery.now c.items.recovery c.take_item.new.self
    (g.P.Write.contents c.args.report.now)
    (g.P.Write.contents c.items.report) (g.P.Write.contents c.take_item.new.report)
    c.items.invariant.so_far step.takes step.within at.0 at.1 c.read_in.result c.read_in.ensures
    c.items.invariant.unended given

pub items-preserved : goal.items-preserved
items-preserved g c =
    let next = c.next.follows.lender-at-none in
    let item = tape_item c.in-Ok-Some.item in
    let step = gave c.items.image _ next c.in-Ok-Some.item c.next.follows.holds-at-none
    c.items.invariant.on (c.in-Ok-Some.is ∙ ap Ok c.in-Ok-Some.field-0-is) in
    let given = numbered g.W.Write.contents c.args.key.now c.args.most c.args.form.now
    c.items.expected
    c.number_in-number.result item c.items.recovery c.take_item.new.self
    (g.P.Write.contents c.items.report)
    (g.P.Write.contents c.take_item.new.report) c.number_in-number.ensures
    c.in_ok-take_item-in-Ok-Some.ensures.ok in
    record {
      on = step.goes_on;
      limit = step.within;
      same_device = c.next.follows.holds-at-none.same_device ∙ c.items.invariant.same_device;
      so_far = one_more g.W.Write.contents c.args.image.now.left c.items.image.left next.left
          c.items.image.place next.place c.args.start c.args.key.now c.args.most
          c.args.form.now c.items.expected c.step-expected.result.0 item c.args.recovery.now
          c.items.recovery c.take_item.new.self
          (g.P.Write.contents c.args.report.now) (g.P.Write.contents c.items.report)
          (g.P.Write.contents c.take_item.new.report) c.items.invariant.so_far step.takes
          (ap (λ r. r.0) c.step-expected.ensures) given;
      unended = still_open c.args.key.now c.args.start c.items.expected
          c.items.invariant.so_far.items item c.is_end.result c.items.invariant.so_far.expects
          c.items.invariant.unended c.is_end.ensures c.if-is_end.false;
    }

pub returns-in-Ok-None-clause-ok : goal.returns-in-Ok-None-clause-ok
returns-in-Ok-None-clause-ok g c =
    let next = c.next.follows.lender-at-none in
    let met = met_end c.items.image _ next c.next.follows.holds-at-none c.items.invariant.on
    (c.in-Ok-None.is ∙ ap Ok c.in-Ok-None.field-0-is) in
    at_end g.W.Write.contents c.args.image.now.left c.items.image.left next.left
    c.items.image.place next.place met.ending c.args.start c.args.key.now c.args.most
    c.args.form.now c.items.expected c.args.recovery.now c.items.recovery
    (g.P.Write.contents c.args.report.now)
    (g.P.Write.contents c.items.report) c.items.invariant.so_far met.takes c.items.invariant.limit
    c.read_in-in-Ok-None.result c.read_in-in-Ok-None.ensures c.items.invariant.unended

pub returns-in-Err-clause-ok : goal.returns-in-Err-clause-ok
returns-in-Err-clause-ok g c =
    let next = c.next.follows.lender-at-none in
    let met = met_fault c.items.image _ next c.in-Err.field-0 c.next.follows.holds-at-none
    c.items.invariant.on c.in-Err.is in
    at_fault g.W.Write.contents c.args.image.now.left c.items.image.left next.left
    c.items.image.place c.in-Err.field-0 c.args.start c.args.key.now c.args.most c.args.form.now
    c.items.expected c.args.recovery.now c.items.recovery (g.P.Write.contents c.args.report.now)
    (g.P.Write.contents c.items.report) c.items.invariant.so_far met.takes c.items.invariant.limit
    c.read_in-in-Err.result
    c.read_in-in-Err.ensures c.items.invariant.unended

pub returns-in_err-take_item-in-Ok-Some-clause-front :
    goal.returns-in_err-take_item-in-Ok-Some-clause-front
returns-in_err-take_item-in-Ok-Some-clause-front g c =
    let next = c.next.follows.lender-at-none in
    let step = gave c.items.image _ next c.in-Ok-Some.item c.next.follows.holds-at-none
    c.items.invariant.on (c.in-Ok-Some.is ∙ ap Ok c.in-Ok-Some.field-0-is) in
    on_err c.from_residual.result _ (stops_at g.W.Write.contents c.args.image.now.left
    c.items.image.left next.left c.items.image.place next.place c.args.start c.args.key.now
    c.args.most c.args.form.now c.items.expected c.number_in-number.result
    (tape_item c.in-Ok-Some.item) c.args.recovery.now c.items.recovery
    (g.P.Write.contents c.args.report.now) (g.P.Write.contents c.items.report)
    (g.P.Write.contents c.take_item.new.report) c.items.invariant.so_far step.takes step.within
    c.number_in-number.ensures c.in_err-take_item-in-Ok-Some.ensures.front)
