use Rattle.tape_run.proofs.SectionStands.{ended_sections_stand}
use Rattle.tape_run.proofs.copy_laws.ended_sections_stand.Goals as goal

pub returns : goal.returns
returns c = ended_sections_stand
