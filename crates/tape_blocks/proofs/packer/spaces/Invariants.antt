use Rattle.std.proofs.Common.{◌≡◌, replicate, vec_len, vec_capacity}
use Rattle.tape_blocks.proofs.packer.spaces.Given as goal

abbrev pub invariant-loop : goal.invariant-loop
invariant-loop l = record {
  items : l.block.items ≡ replicate l.counter 32;
  len : vec_len l.block ≡ l.counter;
  room : vec_capacity l.block ≡ l.count;
}
