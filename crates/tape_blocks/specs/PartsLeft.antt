-- The parts that an iterator has not yielded yet.
use Rattle.std.specs.Prelude.{List}
use Rattle.tape_blocks.specs.{declared.parts.Parts.Parts, Block.Portion, Parts.parts_of}

abbrev pub parts_left : Parts → List Portion
parts_left s = parts_of s.format s.rec_len s.rest.now
