use Rattle.std.proofs.Common.{◌≡◌, ◌+◌, ◌≤◌, length, take}
use Rattle.std.specs.List.{suffix_len}
use Rattle.tape_run.specs.SurveyLine.{is_space}
use Rattle.tape_run.proofs.text.trimmed_len.Given as goal

abbrev pub invariant-spaces : goal.invariant-spaces
invariant-spaces l = (l.count ≤ length l.bytes)
    × (l.count + suffix_len is_space l.bytes
    ≡ length l.bytes + suffix_len is_space (take l.count l.bytes))

abbrev pub decreases-spaces : goal.decreases-spaces
decreases-spaces l = l.count
