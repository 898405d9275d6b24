use Rattle.tape_run.proofs.MergeJoins.{either, merged_one, differ_for_good}
use Rattle.tape_run.proofs.merge_laws.readings_make_one_tape_or_differ.Goals as goal

pub returns : goal.returns
returns c = record {
  either = record { either = either; apart = λ rs m is never. never m is.all; one = merged_one };
  lasting = differ_for_good;
}
