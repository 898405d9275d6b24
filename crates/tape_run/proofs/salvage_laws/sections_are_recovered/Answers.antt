use Rattle.tape_run.proofs.SalvageSections.{recovers_section_of}
use Rattle.tape_run.proofs.salvage_laws.sections_are_recovered.Goals as goal

pub returns : goal.returns
returns c = recovers_section_of
