use Rattle.tape_set.proofs.Reaching.{far_better}
use Rattle.tape_run.proofs.{MergedCopies.merged_is_copy, MergedFar.once_is_enough}
use Rattle.tape_run.proofs.merge_laws.merged_copies.Goals as goal

pub returns : goal.returns
returns c = record { copy = merged_is_copy; far = far_better; once = once_is_enough }
