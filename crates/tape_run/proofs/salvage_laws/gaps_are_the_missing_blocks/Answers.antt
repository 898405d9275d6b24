use Rattle.tape_run.proofs.{SalvageData.gaps_are_runs, SalvageSetGaps.reports_blocks}
use Rattle.tape_run.proofs.salvage_laws.gaps_are_the_missing_blocks.Goals as goal

pub returns-clause-runs : goal.returns-clause-runs
returns-clause-runs c = gaps_are_runs

pub returns-clause-sections : goal.returns-clause-sections
returns-clause-sections c = reports_blocks
