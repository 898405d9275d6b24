use Rattle.tape_writer.proofs.Words.{take, AllByRecursion}
use Rattle.tape_writer.specs.Fields.{IsTextHead}
use Rattle.tape_writer.proofs.inputs.set.are_text_heads.Given as goal

abbrev pub invariant-loop-file : goal.invariant-loop-file
invariant-loop-file g l = AllByRecursion (λ f. IsTextHead f.head) (take l.file-index l.files)
