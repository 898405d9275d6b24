use Rattle.tape_writer.proofs.{Words.rules, Words.refl, Last.lasting_item, Last.lasting_err}
use Rattle.tape_writer.proofs.tape.Tape.block.Goals as goal

pub returns-clause-lasting : goal.returns-clause-lasting
returns-clause-lasting g c =
    lasting_item _ _ _ _ _ _ _ c.in_default.ensures.ok c.block.ensures.count (search rules)

pub returns-in-Err-clause-lasting : goal.returns-in-Err-clause-lasting
returns-in-Err-clause-lasting g c =
    lasting_err _ _ _ _ _ _ c.in-Err.ensures.err c.block.ensures.count refl
