use Rattle.std.proofs.Common.{◌≡◌, false, List, take}
use Rattle.tape_blocks_tests.specs.Records.{contents}
use Rattle.tape_blocks.specs.Records.{AreRecordsOf}
use Rattle.tape_blocks.specs.Run.{RunOf}
use Rattle.tape_blocks.specs.Tight.{Filled, bytes_of_all}
use Rattle.tape_blocks_tests.proofs.packing.pack_all.Given as goal

abbrev pub invariant-loop-record : goal.invariant-loop-record
invariant-loop-record l = record {
  shape : l.packer.shape ≡ l.fn.shape;
  ended : l.packer.begun ≡ false;
  taken : List Filled;
  lengths : AreRecordsOf l.fn.shape (contents (take l.record-index l.records));
  bytes : bytes_of_all taken ≡ contents l.blocks.items;
  run : RunOf taken l.packer (contents (take l.record-index l.records));
}
