use Rattle.std.proofs.Common.{arith, rules, sym, ◌∙◌}
use Rattle.std.specs.Prelude.{◌==◌}
use Rattle.tape_run.proofs.MergeLoops.{starts, stops_at, comes_to_end, one_more, refused_now}
use Rattle.tape_run.proofs.MergeLoops.{row_refused}
use Rattle.tape_run.proofs.MergeCounts.{one_at_most, wrong_at_most}
use Rattle.tape_run.proofs.merge.merge_items.Goals as goal

pub items-init : goal.items-init
items-init g c = record {
  so_far = starts _ _ _;
  stands = c.requires.writing;
  few = omega arith;
  limit = omega arith;
  blocks = omega arith;
  bad = omega arith;
  alone = omega arith;
  miscounted = omega arith;
}

pub returns-then-is_some-clause-fault : goal.returns-then-is_some-clause-fault
returns-then-is_some-clause-fault g c = stops_at _ _ _ c.items.merged c.items.phase c.args.out.now
    c.items.out _ _ c.ask_all.new.best c.ask_all.new.other c.items.invariant.so_far
    c.in_ok-witnesses.ensures.asked (sym c.is_some.ensures ∙ c.if-is_some.true)

pub returns-then-not-branch-clause-ok : goal.returns-then-not-branch-clause-ok
returns-then-not-branch-clause-ok g c =
    comes_to_end _ _ _ c.items.merged c.items.phase c.args.out.now c.items.out c.put.new.out _ _
    c.ask_all.new.best c.ask_all.new.other c.in_ok-put.field-0 c.items.invariant.so_far
    c.in_ok-witnesses.ensures.asked (sym c.is_some.ensures ∙ c.if-is_some.false)
    c.in_ok-put.ensures.ok
    c.if-not-branch.true

pub items-preserved : goal.items-preserved
items-preserved g c =
    let more = one_more _ _ _ c.items.merged c.count.new.self c.items.phase c.step-next.result
    c.in_ok-witnesses.witnesses c.args.out.now c.items.out c.put.new.out _ _ _
    c.ask_all.new.best c.ask_all.new.other c.in_ok-put.field-0 c.is_bad.result
    c.items.invariant.so_far c.in_ok-witnesses.ensures.asked c.in_ok-witnesses.ensures.witnesses
    (sym c.is_some.ensures ∙ c.if-is_some.false)
    c.in_ok-put.ensures.ok c.if-not-branch.false c.in_ok-log_item.ensures.ok c.step-next.ensures
    c.is_bad.ensures
    c.count.ensures.items c.count.ensures.bad c.count.ensures.alone c.count.ensures.miscounted in
    record {
      so_far = more.so_far;
      stands = more.stands;
      few = omega (arith, more.moves, c.items.invariant.few, c.count.ensures.items);
      limit = omega (arith, more.moves, more.within, c.items.invariant.few, c.count.ensures.items);
      blocks = omega (arith, more.blocks, c.items.invariant.blocks, c.count.ensures.items);
      bad = omega (
        arith,
        c.items.invariant.bad,
        c.count.ensures.bad,
        c.count.ensures.items,
        one_at_most c.is_bad.result,
      );
      alone = omega (
        arith,
        c.items.invariant.alone,
        c.count.ensures.alone,
        c.count.ensures.items,
        one_at_most (c.in_ok-witnesses.witnesses == 1),
      );
      miscounted = omega (
        arith,
        c.items.invariant.miscounted,
        c.count.ensures.miscounted,
        c.count.ensures.items,
        wrong_at_most c.step-next.result.1,
      );
    }

pub returns-in_err-put-clause-fault : goal.returns-in_err-put-clause-fault
returns-in_err-put-clause-fault g c = refused_now c.from_residual-in_err-put.result _ _ _
    c.items.merged c.items.phase c.args.out.now c.items.out c.put.new.out _ _ c.ask_all.new.best
    c.ask_all.new.other c.in_err-put.field-0.0 (search rules) c.items.invariant.so_far
    c.in_ok-witnesses.ensures.asked (sym c.is_some.ensures ∙ c.if-is_some.false)
    c.items.invariant.stands c.in_err-put.ensures.err

pub returns-in_err-log_item-clause-fault : goal.returns-in_err-log_item-clause-fault
returns-in_err-log_item-clause-fault g c = row_refused _ _ _ _ c.items.merged c.items.phase
    c.in_ok-witnesses.witnesses c.args.out.now c.items.out c.put.new.out _ _ c.ask_all.new.best
    c.ask_all.new.other
    c.in_ok-put.field-0 c.in_ok-witnesses.ensures.witnesses c.in_err-log_item.ensures.due
    (search rules) c.items.invariant.so_far c.in_ok-witnesses.ensures.asked
    (sym c.is_some.ensures ∙ c.if-is_some.false) c.in_ok-put.ensures.ok c.if-not-branch.false
