use Rattle.std.proofs.Common.{◌≡◌, ◌≤◌, drop, take, map, length}
use Rattle.tape_writer.specs.Coded.{to_ebcdic}
use Rattle.tape_writer.proofs.ebcdic.turn.Given as goal

abbrev pub invariant-loop-place : goal.invariant-loop-place
invariant-loop-place l = record {
  inside : l.place ≤ 80;
  size : length l.text ≡ 80;
  front : take l.place l.text ≡ take l.place l.fn.text;
  behind : drop l.place l.text ≡ map to_ebcdic (drop l.place l.fn.text);
}

abbrev pub decreases-loop-place : goal.decreases-loop-place
decreases-loop-place l = l.place
