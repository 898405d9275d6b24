use Rattle.tape_run.proofs.SalvageReadings.{recovers_reading}
use Rattle.tape_run.proofs.salvage_laws.readings_of_sets_are_recovered.Goals as goal

pub returns : goal.returns
returns c = recovers_reading
