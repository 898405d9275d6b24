use Rattle.std.proofs.Common.{◌≡◌, ◌++◌, flat_map, take}
use Rattle.tape_tool.specs.JsonLine.{member_tokens}
use Rattle.tape_tool.proofs.json_lines.add_members.Given as goal

abbrev pub invariant-loop-member : goal.invariant-loop-member
invariant-loop-member l = (l.writer.before ≡ l.fn.writer.before)
    × (l.writer.tokens
    ≡ l.fn.writer.tokens ++ flat_map member_tokens (take l.member-index l.members))
