use Rattle.tape_stage.proofs.Examples.{cases_of_crashes, cases_of_moments, cases_of_files}
use Rattle.tape_stage.proofs.Examples.{cases_of_stages, cases_of_laws, cases_of_salvage}
use Rattle.tape_stage.proofs.laws.cases.Goals as goal

pub returns-clause-crashes : goal.returns-clause-crashes
returns-clause-crashes g c = cases_of_crashes

pub returns-clause-moments : goal.returns-clause-moments
returns-clause-moments g c = cases_of_moments

pub returns-clause-files : goal.returns-clause-files
returns-clause-files g c = cases_of_files

pub returns-clause-stages : goal.returns-clause-stages
returns-clause-stages g c = cases_of_stages g.D.Disk

pub returns-clause-laws : goal.returns-clause-laws
returns-clause-laws g c = cases_of_laws

pub returns-clause-salvage : goal.returns-clause-salvage
returns-clause-salvage g c = cases_of_salvage
