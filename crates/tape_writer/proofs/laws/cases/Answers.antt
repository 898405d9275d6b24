use Rattle.tape_writer.proofs.Examples.{cases_of_tapes, cases_of_images, cases_of_sets}
use Rattle.tape_writer.proofs.ExamplesOfInputs.{cases_of_inputs, cases_of_set_faults}
use Rattle.tape_writer.proofs.ExamplesOfInputs.{cases_of_written, cases_of_record_laws}
use Rattle.tape_writer.proofs.ExamplesOfDrafts.{cases_of_drafts, cases_of_inside}
use Rattle.tape_writer.proofs.{Examples.cases_of_refusals, ExamplesOfFronts.cases_of_fronts}
use Rattle.tape_writer.proofs.{ExamplesOfHolding.cases_of_holding}
use Rattle.tape_writer.proofs.laws.cases.Goals as goal

pub returns : goal.returns
returns c = record {
  tapes = cases_of_tapes;
  images = cases_of_images;
  sets = cases_of_sets;
  refusals = cases_of_refusals;
  inputs = cases_of_inputs;
  set_faults = cases_of_set_faults;
  written = cases_of_written;
  record_laws = cases_of_record_laws;
  fronts = cases_of_fronts;
  drafts = cases_of_drafts;
  inside = cases_of_inside;
  holding = cases_of_holding;
}
