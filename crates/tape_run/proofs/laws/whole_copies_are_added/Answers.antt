use Rattle.tape_run.proofs.WholeCopies.{whole_copies}
use Rattle.tape_run.proofs.laws.whole_copies_are_added.Goals as goal

pub returns : goal.returns
returns c = whole_copies
