use Rattle.std.proofs.Common.{encode_utf8_all, flat_map}
use Rattle.std.specs.Fmt.{HasWritten, IsPlainFormatter}
use Rattle.tape_run.specs.Quoting.{quoted}
use Rattle.tape_tool.proofs.shown.ShownDisplay.fmt.Given as goal

abbrev pub invariant-loop-c : goal.invariant-loop-c
invariant-loop-c g l = IsPlainFormatter l.initial.f → HasWritten g.W.Write.write_str_gives
    l.initial.f (encode_utf8_all (flat_map quoted l.yielded)) l.f
