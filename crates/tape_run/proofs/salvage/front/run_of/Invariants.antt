use Rattle.std.proofs.Common.{◌≡◌, ◌+◌, ◌≤◌, ◌==◌, length, take}
use Rattle.std.specs.List.{suffix_len}
use Rattle.tape_run.proofs.salvage.front.run_of.Given as goal

abbrev pub invariant-same : goal.invariant-same
invariant-same l = (l.count ≤ length l.bytes)
    × (l.count + suffix_len (λ b. b == l.fn.byte) l.bytes
    ≡ length l.bytes + suffix_len (λ b. b == l.fn.byte) (take l.count l.bytes))

abbrev pub decreases-same : goal.decreases-same
decreases-same l = l.count
