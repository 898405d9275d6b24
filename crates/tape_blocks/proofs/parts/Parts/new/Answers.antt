use Rattle.std.proofs.{Common.arith, lemmas.List.take_rest}
use Rattle.tape_blocks.proofs.PartsLaws.{parts_are}
use Rattle.tape_blocks.proofs.parts.Parts.new.Goals as goal

pub returns : goal.returns
returns c = grind (arith, take_rest, parts_are)
