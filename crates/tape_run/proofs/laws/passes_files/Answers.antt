use Rattle.tape_run.proofs.GoesBehind.{passes_files, leads_over_all}
use Rattle.tape_run.proofs.GoesBehindReels.{leaves_behind}
use Rattle.tape_run.proofs.laws.passes_files.Goals as goal

pub returns-clause-passes : goal.returns-clause-passes
returns-clause-passes c = passes_files

pub returns-clause-leads : goal.returns-clause-leads
returns-clause-leads c = leads_over_all

pub returns-clause-leaves : goal.returns-clause-leaves
returns-clause-leaves c = leaves_behind
