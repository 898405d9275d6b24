use Rattle.std.proofs.Common.{◌≡◌, arith, None, sym, ap, subst, ◌∙◌, ◌+◌}
use Rattle.std.proofs.Math.ListN.{set}
use Rattle.tape_run.specs.MergeCalls.{has_first}
use Rattle.tape_run.proofs.MergeRounds.{AskedFirst, loop_more, loop_ends, has_few, asked_at}
use Rattle.tape_run.proofs.MergeRounds.{set_here}
use Rattle.tape_run.proofs.merge.ask_all.Goals as goal

pub loop-number-preserved : goal.loop-number-preserved
loop-number-preserved g c =
    let here = set_here c.loop-number.readings c.loop-number.number c.ask.new.reading
    c.index-readings-number-in-loop-number.result (omega arith)
    c.index-readings-number-in-loop-number.is in
    let has : c.witnesses-witnesses.result ≡ has_first c.ask.new.reading.verdict =
    c.witnesses-witnesses.ensures ∙ ap (λ r. has_first r.verdict)
    (sym c.index-readings-number-in-loop-number.is ∙ here) in
    record {
      asked = subst (λ w. AskedFirst (c.loop-number.number + 1) c.args.readings.now
          (set c.loop-number.readings c.loop-number.number c.ask.new.reading) None c.ask.new.best
          None c.ask.new.other
          (c.loop-number.witnesses + w)) (sym has)
          (loop_more c.args.readings.now c.loop-number.readings c.loop-number.number None
          c.loop-number.best c.ask.new.best None c.loop-number.other c.ask.new.other
          c.index-readings-number.result c.ask.new.reading c.loop-number.witnesses
          c.loop-number.invariant.asked (omega arith) c.index-readings-number.is
          (asked_at c.loop-number.readings c.loop-number.number c.index-readings-number.result
          c.ask.new.reading c.loop-number.best c.ask.new.best c.loop-number.other
          c.ask.new.other c.index-readings-number.is c.in_ok-ask.ensures.asked));
      few = omega (
        arith,
        c.loop-number.invariant.few,
        has,
        has_few c.ask.new.reading.verdict,
      );
    }

pub returns-clause-asked : goal.returns-clause-asked
returns-clause-asked g c = (loop_ends _ _ _ None _ None _ _ c.loop-number.invariant.asked
    (omega arith)).0

pub returns-clause-witnesses : goal.returns-clause-witnesses
returns-clause-witnesses g c = (loop_ends _ _ _ None _ None _ _ c.loop-number.invariant.asked
    (omega arith)).1
