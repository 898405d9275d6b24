use Rattle.tape_writer.proofs.Words.{take, AllByRecursion, IsWideVolume}
use Rattle.tape_writer.proofs.fields.tell_all_widths.Given as goal

abbrev pub invariant-loop-volume : goal.invariant-loop-volume
invariant-loop-volume l = AllByRecursion IsWideVolume (take l.volume-index l.volumes)
