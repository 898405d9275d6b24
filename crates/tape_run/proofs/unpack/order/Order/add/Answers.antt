use Rattle.std.proofs.Common.{ap, sym, ◌∙◌, arith}
use Rattle.tape_run.specs.ReadingOrder.{is_in}
use Rattle.tape_run.proofs.ReadingOrder.{marked}
use Rattle.tape_run.proofs.unpack.order.Order.add.Goals as goal

-- src/unpack/order.rt:88:9
pub invariant_of-self-2 : goal.invariant_of-self-2
invariant_of-self-2 c = record {
  same = λ n less. marked _ _ _ c.args.self.now.same
      (omega (arith, c.if-number-len.false, c.len.ensures)) n less ∙ ap (is_in n)
      (sym c.in_ok-push.ensures.items);
}
