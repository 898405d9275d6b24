use Rattle.tape_run.proofs.SalvageSections.{passes_section}
use Rattle.tape_run.proofs.salvage_laws.other_sections_are_passed.Goals as goal

pub returns : goal.returns
returns c = passes_section
