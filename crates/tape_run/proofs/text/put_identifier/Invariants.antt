use Rattle.std.proofs.Common.{◌≡◌, ◌+◌, ◌++◌, map, take}
use Rattle.arrayvec.specs.ArrayVec.{array_vec_len}
use Rattle.tape_run.specs.Identifier.{printed}
use Rattle.tape_run.proofs.text.put_identifier.Given as goal

abbrev pub invariant-loop-byte : goal.invariant-loop-byte
invariant-loop-byte g l = record {
  items : l.text.items ≡ l.fn.text.items ++ map printed (take l.byte-index l.byte-items);
  len : array_vec_len l.text ≡ array_vec_len l.fn.text + l.byte-index;
}
