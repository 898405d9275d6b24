use Rattle.tape_core.proofs.Overlap.{copies_agree}
use Rattle.tape_core.proofs.laws.copies_agree.Goals as goal

pub returns : goal.returns
returns c = copies_agree
