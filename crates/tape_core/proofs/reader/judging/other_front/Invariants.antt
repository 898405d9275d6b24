use Rattle.std.proofs.Common.{◌≡◌, ◌+◌, length, map}
use Rattle.tape_blocks.specs.{Parts.view, Judged.begun_behind}
use Rattle.tape_core.specs.Parts.{goes_on_at}
use Rattle.tape_core.proofs.reader.judging.other_front.Given as goal

-- the parts seen, and whether a record is unfinished after them
abbrev pub invariant-loop-each : goal.invariant-loop-each
invariant-loop-each l = (length l.yielded + l.left ≡ l.part) × (l.going
    ≡ begun_behind (goes_on_at l.known.format l.known.offset l.block) (map view l.yielded))
