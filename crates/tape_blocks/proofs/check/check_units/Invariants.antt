use Rattle.std.proofs.Common.{◌≤◌, ◌-◌, length, drop}
use Rattle.std.specs.Prelude.{List}
use Rattle.tape_blocks.specs.{Block.Portion, Faults.IsFront}
use Rattle.tape_blocks.proofs.check.check_units.Given as goal

abbrev pub invariant-units : goal.invariant-units
invariant-units l = record {
  inside : l.place ≤ length l.block;
  front : (parts : List Portion) × IsFront l.units.format l.units.rec_len l.units.offset l.begun
      l.block parts l.going (drop l.place l.block);
}

abbrev pub decreases-units : goal.decreases-units
decreases-units l = length l.block - l.place
