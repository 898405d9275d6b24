use Rattle.std.proofs.Common.{◌≡◌, ◌+◌, ◌*◌, ◌≤◌, ◌++◌, take, flat_map}
use Rattle.arrayvec.specs.ArrayVec.{array_vec_len}
use Rattle.tape_run.specs.Unpacking.{fit}
use Rattle.tape_run.proofs.unpack.name.put_file_id.Given as goal

abbrev pub invariant-loop-byte : goal.invariant-loop-byte
invariant-loop-byte l = record {
  items : l.text.items ≡ l.fn.text.items ++ flat_map fit (take l.byte-index l.byte-items);
  len : array_vec_len l.text ≤ array_vec_len l.fn.text + 3 * l.byte-index;
}
