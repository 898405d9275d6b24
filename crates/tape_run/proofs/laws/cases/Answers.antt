use Rattle.tape_run.proofs.Examples.{cases_of_mounts, cases_of_made, cases_of_stops}
use Rattle.tape_run.proofs.ExamplesOfCatalogues.{cases_of_catalogues, cases_of_copies}
use Rattle.tape_run.proofs.{Examples.cases_of_crashes, ExamplesOfCatalogues.cases_of_reports}
use Rattle.tape_run.proofs.ExamplesOfReels.{cases_of_table, cases_of_leads}
use Rattle.tape_run.proofs.{ExamplesOfUnpacking.cases_of_unpacking, ExamplesOfSaves.cases_of_saved}
use Rattle.tape_run.proofs.{ExamplesOfSalvage.cases_of_salvage, ExamplesOfSeen.cases_of_seen}
use Rattle.tape_run.proofs.{ExamplesOfRounds.cases_of_rounds, ExamplesOfExtracts.cases_of_outputs}
use Rattle.tape_run.proofs.ExamplesOfLaws.{cases_of_run_laws, cases_of_catalogue_laws}
use Rattle.tape_run.proofs.laws.cases.Goals as goal

pub returns-clause-mounts : goal.returns-clause-mounts
returns-clause-mounts c = cases_of_mounts

pub returns-clause-made : goal.returns-clause-made
returns-clause-made c = cases_of_made

pub returns-clause-stops : goal.returns-clause-stops
returns-clause-stops c = cases_of_stops

pub returns-clause-crashes : goal.returns-clause-crashes
returns-clause-crashes c = cases_of_crashes

pub returns-clause-table : goal.returns-clause-table
returns-clause-table c = cases_of_table

pub returns-clause-leads : goal.returns-clause-leads
returns-clause-leads c = cases_of_leads

pub returns-clause-catalogues : goal.returns-clause-catalogues
returns-clause-catalogues c = cases_of_catalogues

pub returns-clause-copies : goal.returns-clause-copies
returns-clause-copies c = cases_of_copies

pub returns-clause-reports : goal.returns-clause-reports
returns-clause-reports c = cases_of_reports

pub returns-clause-unpacking : goal.returns-clause-unpacking
returns-clause-unpacking c = cases_of_unpacking

pub returns-clause-seen : goal.returns-clause-seen
returns-clause-seen c = cases_of_seen

pub returns-clause-saved : goal.returns-clause-saved
returns-clause-saved c = cases_of_saved

pub returns-clause-outputs : goal.returns-clause-outputs
returns-clause-outputs c = cases_of_outputs

pub returns-clause-rounds : goal.returns-clause-rounds
returns-clause-rounds c = cases_of_rounds

pub returns-clause-run_laws : goal.returns-clause-run_laws
returns-clause-run_laws c = cases_of_run_laws

pub returns-clause-catalogue_laws : goal.returns-clause-catalogue_laws
returns-clause-catalogue_laws c = cases_of_catalogue_laws

pub returns-clause-salvage : goal.returns-clause-salvage
returns-clause-salvage c = cases_of_salvage
