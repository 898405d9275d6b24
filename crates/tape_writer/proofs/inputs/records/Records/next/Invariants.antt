use Rattle.tape_writer.proofs.Words.{◌≡◌, ◌≤◌, ◌-◌, ◌+◌, length, false, vec_capacity}
use Rattle.tape_writer.specs.Records.{left_of}
use Rattle.tape_writer.proofs.inputs.Cutting.{SoFar}
use Rattle.tape_writer.proofs.inputs.records.Records.next.Given as goal

abbrev pub invariant-pieces : goal.invariant-pieces
invariant-pieces g l = record {
  cut : l.self.cut ≡ l.fn.self.cut;
  limit : l.self.limit ≡ l.fn.self.limit;
  over : l.self.over ≡ false;
  fresh : l.fn.self.over ≡ false;
  within : length l.self.content.items ≤ l.fn.self.limit;
  room : vec_capacity l.fn.self.content ≤ vec_capacity l.self.content;
  fits : length l.self.content.items ≤ vec_capacity l.self.content;
  so_far : SoFar l.fn.self.cut (left_of g.R.Read.remaining l.fn.self)
      (left_of g.R.Read.remaining l.self) l.self.content.items;
}

abbrev pub decreases-pieces : goal.decreases-pieces
decreases-pieces g l = l.self.limit - length l.self.content.items + 1
