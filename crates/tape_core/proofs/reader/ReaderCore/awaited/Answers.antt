use Rattle.std.proofs.Common.{ap, ◌∙◌}
use Rattle.tape_core.specs.State.{State}
use Rattle.tape_core.proofs.Delivering.{only_data}
use Rattle.tape_core.proofs.reader.ReaderCore.awaited.Goals as goal

pub returns-in_default : goal.returns-in_default
returns-in_default c = record {
  some = tt;
  none = only_data c.args.self.now c.args.block.now (λ heading form seen is.
      c.in_default.not-DataWanted heading form seen
      (ap (λ (z : State). z.phase) c.self.view_is ∙ is));
}
