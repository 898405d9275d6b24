use Rattle.tape_image.proofs.Again.{places_begin_items}
use Rattle.tape_image.proofs.Unharmed.{none_at_items, none_at_ends}
use Rattle.tape_image.proofs.laws.items_begin_again_after_wrong_words.Goals as goal

pub returns-clause-items : goal.returns-clause-items
returns-clause-items c = none_at_items

pub returns-clause-ends : goal.returns-clause-ends
returns-clause-ends c = none_at_ends

pub returns-clause-places : goal.returns-clause-places
returns-clause-places c = places_begin_items
