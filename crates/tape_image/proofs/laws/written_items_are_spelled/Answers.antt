use Rattle.tape_image.proofs.WrittenItems.{written_spells, failed_holds}
use Rattle.tape_image.proofs.laws.written_items_are_spelled.Goals as goal

pub returns-clause-spells : goal.returns-clause-spells
returns-clause-spells c = written_spells

pub returns-clause-front : goal.returns-clause-front
returns-clause-front c = failed_holds
