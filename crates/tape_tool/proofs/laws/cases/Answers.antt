use Rattle.tape_tool.proofs.Examples.{cases_of_ends, cases_of_faults, cases_of_lines}
use Rattle.tape_tool.proofs.Examples.{cases_of_names, cases_of_staging}
use Rattle.tape_tool.proofs.{ExamplesOfShowing.cases_of_showing, ExamplesOfWriting.cases_of_writing}
use Rattle.tape_tool.proofs.{ExamplesOfWords.cases_of_words}
use Rattle.tape_tool.proofs.laws.cases.Goals as goal

pub returns : goal.returns
returns g c = record {
  ends = cases_of_ends;
  faults = cases_of_faults;
  lines = cases_of_lines;
  names = cases_of_names;
  staging = cases_of_staging g.D.Disk;
  showing = cases_of_showing;
  writing = cases_of_writing;
  words = cases_of_words;
}
