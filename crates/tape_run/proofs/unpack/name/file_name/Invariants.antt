use Rattle.std.proofs.Common.{◌≡◌, ◌*◌, ◌≤◌, take, flat_map}
use Rattle.arrayvec.specs.ArrayVec.{array_vec_len}
use Rattle.tape_run.specs.Unpacking.{escaped}
use Rattle.tape_run.proofs.unpack.name.file_name.Given as goal

abbrev pub invariant-loop-byte : goal.invariant-loop-byte
invariant-loop-byte l = record {
  items : l.text.items ≡ flat_map escaped (take l.byte-index l.byte-items);
  len : array_vec_len l.text ≤ 3 * l.byte-index;
}
