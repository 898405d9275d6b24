use Rattle.tape_core.proofs.Examples.{cases_of_foreign, cases_of_sinks}
use Rattle.tape_core.proofs.laws.cases.Goals as goal

pub returns-clause-foreign : goal.returns-clause-foreign
returns-clause-foreign c = cases_of_foreign

pub returns-clause-sinks : goal.returns-clause-sinks
returns-clause-sinks c = cases_of_sinks
