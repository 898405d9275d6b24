use Rattle.std.proofs.Common.{◌≡◌, ◌≤◌, ◌++◌, drop, length}
use Rattle.tape_label.specs.Digits.{digits}
use Rattle.tape_label.proofs.reading.digits_of.Given as goal

abbrev pub invariant-loop-place : goal.invariant-loop-place
invariant-loop-place g l = record {
  inside : l.place ≤ g.row.W;
  size : length l.text ≡ g.row.W;
  written : digits l.place l.rest ++ drop l.place l.text ≡ digits g.row.W l.fn.number;
}

abbrev pub decreases-loop-place : goal.decreases-loop-place
decreases-loop-place g l = l.place
