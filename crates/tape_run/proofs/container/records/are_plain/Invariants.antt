use Rattle.std.proofs.Common.{◌≡◌, length}
use Rattle.std.specs.List.{list_all}
use Rattle.tape_run.specs.ContainerRecords.{is_plain}
use Rattle.tape_run.proofs.container.records.are_plain.Given as goal

abbrev pub invariant-bytes : goal.invariant-bytes
invariant-bytes l = list_all is_plain l.left ≡ list_all is_plain l.bytes

abbrev pub decreases-bytes : goal.decreases-bytes
decreases-bytes l = length l.left
