use Rattle.tape_image.proofs.Pins.{images_are_held, answers_are_held, taking_is_held, laws_are_held}
use Rattle.tape_image.proofs.Pins.{writing_is_held}
use Rattle.tape_image.proofs.laws.definitions_are_held_by_examples.Goals as goal

pub returns : goal.returns
returns c = record {
  images = images_are_held;
  answers = answers_are_held;
  taking = taking_is_held;
  laws = laws_are_held;
  writing = writing_is_held;
}
