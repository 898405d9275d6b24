use Rattle.std.proofs.Common.{◌≡◌, ◌++◌, List, map, take, false}
use Rattle.tape_blocks.specs.Spans.{InOrder}
use Rattle.tape_blocks.specs.Laws.{AllHold}
use Rattle.tape_blocks.specs.Parts.{view}
use Rattle.tape_blocks_tests.specs.Records.{contents}
use Rattle.tape_blocks.specs.Tight.{Filled, bytes_of_all, parts_of_all}
use Rattle.tape_blocks_tests.proofs.BackLaws.{HasJoined}
use Rattle.tape_blocks_tests.proofs.reading.records_in_blocks.Given as goal

abbrev pub invariant-loop-block : goal.invariant-loop-block
invariant-loop-block l = (held : List Filled) → bytes_of_all held ≡ contents l.blocks
    → AllHold l.shape held → InOrder false (parts_of_all held) false
    → HasJoined (parts_of_all (take l.block-index held)) (contents l.records.items) l.record.items

abbrev pub invariant-loop-part : goal.invariant-loop-part
invariant-loop-part l = (held : List Filled) → bytes_of_all held ≡ contents l.blocks
    → AllHold l.shape held → InOrder false (parts_of_all held) false
    → HasJoined (parts_of_all (take l.block-index held)
    ++ map view l.yielded) (contents l.records.items) l.record.items
