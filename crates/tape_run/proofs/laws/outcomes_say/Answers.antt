use Rattle.tape_run.proofs.ListExamples.{stopped}
use Rattle.tape_run.proofs.laws.outcomes_say.Goals as goal

pub returns : goal.returns
returns c = record {
  at_end = λ old new bytes left.
      record { took = λ l. l.takes; listed = λ l. l.listed; wrote = λ l. l.wrote };
  at_fault = λ fault old new bytes left l. (l.takes, l.listed, l.wrote);
  in_part = λ old new bytes l. (l.1, l.2);
  stopped = stopped;
  fits = λ before after old new. record { of_writer = λ h. h; of_memory = λ fault h. h };
}
