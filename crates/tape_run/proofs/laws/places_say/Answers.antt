use Rattle.tape_run.proofs.PlacedExamples.{placed_first, one_places, block_word, mark_word}
use Rattle.tape_run.proofs.PlacedExamples.{ended, faulted, stopped, placed_worked}
use Rattle.tape_run.proofs.laws.places_say.Goals as goal

pub returns : goal.returns
returns c = record {
  at_end = ended;
  at_fault = faulted;
  stopped = stopped;
  fits = λ offsets before after old new. record { of_writer = λ h. h; of_memory = λ fault h. h };
  worked = placed_worked;
  first = placed_first;
  one = one_places;
  of_block = block_word;
  of_mark = mark_word;
}
