use Rattle.std.proofs.Common.{◌≡◌, ℕ, List, ◌++◌, length}
use Rattle.std.specs.Io.KnownBytes.{Appends}
use Rattle.tape_image.proofs.put.write_bytes.Given as goal

-- a prefix of the bytes was appended, and the rest is left
abbrev pub invariant-writes : goal.invariant-writes
invariant-writes g l =
    (front : List ℕ) × Appends (g.W.Write.contents l.fn.device) (g.W.Write.contents l.device) front
    × (l.bytes ≡ front ++ l.rest)

abbrev pub decreases-writes : goal.decreases-writes
decreases-writes g l = length l.rest
