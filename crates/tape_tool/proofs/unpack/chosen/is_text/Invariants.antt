use Rattle.std.proofs.Common.{◌≡◌, length}
use Rattle.std.specs.List.{list_all}
use Rattle.tape_tool.specs.TextForm.{is_text_byte}
use Rattle.tape_tool.proofs.unpack.chosen.is_text.Given as goal

abbrev pub invariant-bytes : goal.invariant-bytes
invariant-bytes l = list_all is_text_byte l.left ≡ list_all is_text_byte l.bytes

abbrev pub decreases-bytes : goal.decreases-bytes
decreases-bytes l = length l.left
