use Rattle.std.proofs.Common.{◌≡◌, ℕ, ◌+◌, List, length}
use Rattle.tape_blocks_tests.specs.Records.{contents}
use Rattle.tape_blocks.specs.Run.{RunOf}
use Rattle.tape_blocks.specs.Tight.{Filled}
use Rattle.tape_blocks_tests.proofs.PutsLaws.{Puts}
use Rattle.tape_blocks_tests.proofs.packing.put_record.Given as goal

abbrev pub invariant-offers : goal.invariant-offers
invariant-offers l = record {
  shape : l.packer.shape ≡ l.fn.packer.shape;
  puts : (taken : List Filled) (records : List (List ℕ)) → RunOf taken l.fn.packer records
      → Puts taken records (contents l.fn.blocks.items)
      (contents l.blocks.items) l.packer l.fn.whole l.rest;
}

abbrev pub decreases-offers : goal.decreases-offers
decreases-offers l = length l.rest + length l.packer.parts
