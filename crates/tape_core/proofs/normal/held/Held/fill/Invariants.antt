use Rattle.std.proofs.Common.{◌-◌, ◌≤◌, ◌≡◌, ℕ, List, ◌++◌, length, take}
use Rattle.std.specs.Io.KnownBytes.{Keeps, prepend_known}
use Rattle.tape_core.proofs.normal.held.Held.fill.Given as goal

abbrev pub invariant-bytes : goal.invariant-bytes
invariant-bytes g l = record {
  size : length l.self-inside.bytes ≡ 128;
  within : l.self-inside.end ≤ 128;
  grows : (more : List ℕ)
      × (take l.self-inside.end l.self-inside.bytes
      ≡ take l.initial.self-inside.end l.initial.self-inside.bytes ++ more);
  keeps : Keeps (prepend_known (take l.initial.self-inside.end l.initial.self-inside.bytes)
      (g.R.Read.remaining l.initial.device))
      (prepend_known (take l.self-inside.end l.self-inside.bytes) (g.R.Read.remaining l.device));
}

abbrev pub decreases-bytes : goal.decreases-bytes
decreases-bytes g l = l.count - l.self-inside.end
