use Rattle.std.proofs.Common.{◌≡◌, map, take}
use Rattle.arrayvec.specs.ArrayVec.{array_vec_len}
use Rattle.tape_core.specs.NormalForm.Codes.{to_ascii}
use Rattle.tape_run.proofs.extract.translated.characters.Given as goal

abbrev pub invariant-loop-byte : goal.invariant-loop-byte
invariant-loop-byte l = record {
  items : l.text.items ≡ map to_ascii (take l.byte-index l.bytes);
  len : array_vec_len l.text ≡ l.byte-index;
}
