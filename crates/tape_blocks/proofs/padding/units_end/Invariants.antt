use Rattle.std.proofs.Common.{◌≤◌, ◌-◌, length, drop}
use Rattle.std.specs.Prelude.{List}
use Rattle.tape_blocks.specs.Block.{Portion, BeginsWith}
use Rattle.tape_blocks.proofs.padding.units_end.Given as goal

abbrev pub invariant-units : goal.invariant-units
invariant-units l = record {
  inside : l.place ≤ length l.block;
  front : (parts : List Portion) × BeginsWith l.units.format l.units.rec_len l.units.offset l.block
      parts (drop l.place l.block);
}

abbrev pub decreases-units : goal.decreases-units
decreases-units l = length l.block - l.place
