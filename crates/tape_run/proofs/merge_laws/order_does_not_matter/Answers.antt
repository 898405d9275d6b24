use Rattle.tape_run.proofs.MergeJoins.{order_does_not_matter}
use Rattle.tape_run.proofs.merge_laws.order_does_not_matter.Goals as goal

pub returns : goal.returns
returns c = order_does_not_matter
