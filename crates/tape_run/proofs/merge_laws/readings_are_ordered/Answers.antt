use Rattle.tape_run.proofs.MergeReadings.{reads_self, reads_trans}
use Rattle.tape_run.proofs.MergeJoins.{reads_both}
use Rattle.tape_run.proofs.merge_laws.readings_are_ordered.Goals as goal

pub returns : goal.returns
returns c = record { itself = reads_self; through = reads_trans; both = reads_both }
