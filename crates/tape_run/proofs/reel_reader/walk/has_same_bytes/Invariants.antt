use Rattle.std.proofs.Common.{◌≡◌, length}
use Rattle.tape_run.proofs.reel_reader.walk.has_same_bytes.Given as goal

abbrev pub invariant-words : goal.invariant-words
invariant-words l = (l.one ≡ l.other → l.left ≡ l.right) × (l.left ≡ l.right → l.one ≡ l.other)

abbrev pub decreases-words : goal.decreases-words
decreases-words l = length l.left
