use Rattle.tape_image.proofs.Callers.{walked_front}
use Rattle.tape_image.proofs.laws.walked_items_come_first.Goals as goal

pub returns : goal.returns
returns c = walked_front
