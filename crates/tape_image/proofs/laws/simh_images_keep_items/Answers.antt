use Rattle.tape_image.proofs.FormatItems.{keep_items}
use Rattle.tape_image.proofs.laws.simh_images_keep_items.Goals as goal

pub returns : goal.returns
returns c = keep_items
