use Rattle.std.proofs.Common.{◌≡◌, encode_utf8_all, flat_map}
use Rattle.tape_run.specs.Quoting.{quoted}
use Rattle.tape_run.proofs.quoting.name_text.Given as goal

abbrev pub invariant-loop-c : goal.invariant-loop-c
invariant-loop-c l = l.text.items ≡ encode_utf8_all (flat_map quoted l.yielded)
