use Rattle.tape_writer.proofs.inputs.Cutting.{lines_are_cut, pieces_are_cut, whole_is_one}
use Rattle.tape_writer.proofs.laws.inputs_are_cut.Goals as goal

pub returns : goal.returns
returns c = record { lines = lines_are_cut; pieces = pieces_are_cut; whole = whole_is_one }
