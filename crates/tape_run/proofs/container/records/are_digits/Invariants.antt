use Rattle.std.proofs.Common.{◌≡◌, length}
use Rattle.std.specs.List.{list_all}
use Rattle.tape_run.specs.ContainerRecords.{is_digit}
use Rattle.tape_run.proofs.container.records.are_digits.Given as goal

abbrev pub invariant-digits : goal.invariant-digits
invariant-digits l = list_all is_digit l.left ≡ list_all is_digit l.bytes

abbrev pub decreases-digits : goal.decreases-digits
decreases-digits l = length l.left
