use Rattle.std.proofs.Common.{◌≡◌, ◌<◌, ◌-◌, suc, take, drop, sym, ap, arith}
use Rattle.std.proofs.lemmas.List.{take-append-drop}
use Rattle.tape_core.specs.{Stands.weight_of, Memory.portions}
use Rattle.tape_core.proofs.Weights.{weight_of-more, front_has_parts}
use Rattle.tape_core.proofs.memory.MemorySink.front.Goals as goal

pub loop-number-preserved : goal.loop-number-preserved
loop-number-preserved c =
    let all = portions c.args.self.now in
    let n = c.loop-number.number in
    let more : c.args.most < weight_of (take n all) =
    omega (arith, c.loop-number-test.true, c.weight_to.ensures.value) in
    let some = front_has_parts n all c.args.most more in
    let one : n ≡ suc (n - 1) = omega (arith, some) in (
      omega (arith, c.loop-number.invariant.0),
      λ part parts is. omega (
        arith,
        more,
        ap (λ k. weight_of (take k all)) one,
        weight_of-more (n - 1) all part parts is,
      ),
    )

pub returns-clause-front : goal.returns-clause-front
returns-clause-front c =
    let all = portions c.args.self.now in
    record {
      rest = drop c.loop-number.number all;
      whole = sym (take-append-drop c.loop-number.number all);
      light = omega (arith, c.loop-number-test.false, c.weight_to.ensures.value);
      next = c.loop-number.invariant.1;
    }
