use Rattle.tape_run.proofs.SectionsHeld.{compared_sections_stand}
use Rattle.tape_run.proofs.copy_laws.compared_sections_stand.Goals as goal

pub returns : goal.returns
returns c = compared_sections_stand
