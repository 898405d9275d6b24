use Rattle.std.proofs.Common.{◌≡◌, ◌⊎◌, ℕ, ◌<◌, length, slice_index}
use Rattle.tape_tool.proofs.staging.is_begun.Given as goal

abbrev pub invariant-loop-byte : goal.invariant-loop-byte
invariant-loop-byte l = (i : ℕ) → i < length l.yielded
    → (slice_index l.bytes i ≡ 0) ⊎ (slice_index l.bytes i ≡ slice_index l.due i)
