use Rattle.tape_image.proofs.FormatAws.{items_once, one_encoding, no_beginning}
use Rattle.tape_image.proofs.laws.each_format_has_one_list_of_items.Goals as goal

pub returns : goal.returns
returns c = record { items = items_once; unique = one_encoding; prefix = no_beginning }
