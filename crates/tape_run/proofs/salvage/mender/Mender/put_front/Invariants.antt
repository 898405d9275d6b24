use Rattle.std.proofs.Common.{◌≡◌, ◌++◌, List, map}
use Rattle.tape_blocks.specs.{Parts.view, Judged.in_order, Block.Portion}
use Rattle.tape_run.specs.SalvageRecords.{Piece, Start, HasPiece, with_parts}
use Rattle.tape_run.proofs.salvage.mender.Mender.put_front.Given as goal

abbrev pub invariant-loop-part : goal.invariant-loop-part
invariant-loop-part g l =
    ((start : Start) (p : Piece) → HasPiece g.W.Write.contents start l.fn.self p
    → HasPiece g.W.Write.contents start l.self (with_parts p (map view l.yielded)))
    × ((rest : List Portion) → in_order l.fn.begun (map view l.yielded ++ rest)
    ≡ map view l.yielded ++ in_order l.going rest)
