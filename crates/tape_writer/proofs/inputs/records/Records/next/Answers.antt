use Rattle.tape_writer.specs.Records.{Adds}
use Rattle.tape_writer.proofs.Words.{subst}
use Rattle.tape_writer.proofs.Words.{arith, rules, refl, vec_capacity, err_from_is_err_and}
use Rattle.std.proofs.lemmas.Grind.{common_steps}
use Rattle.tape_writer.proofs.inputs.Cutting.{read_ahead, used, piece_taken, piece_more, next_given}
use Rattle.tape_writer.proofs.inputs.{Cutting.taken, Refusing.no_room, Refusing.grows_long}
use Rattle.tape_writer.proofs.inputs.records.Records.next.Goals as goal

pub pieces-preserved : goal.pieces-preserved
pieces-preserved g c =
    let old = c.pieces.self.content.items in
    let piece = c.piece-piece in
    let moved = piece_taken _ _ _ _ _ _ piece.result.content piece.result.taken piece.result.ended
    c.as_slice-bytes.ensures c.skip.ensures (search (rules, c.in-Ok.ensures.items))
    piece.ensures.all (piece.ensures.adds old (search rules)) in
    record {
      cut = search rules;
      limit = search rules;
      over = search rules;
      fresh = c.pieces.invariant.fresh;
      within = grind (arith, common_steps);
      room = grind (arith, common_steps);
      fits = grind (arith, common_steps);
      so_far = piece_more _ _ _ _ _ _ _ moved.0 piece.result.ended (read_ahead _ _ _ _ _
          c.pieces.invariant.so_far c.fill.ensures.bytes) (used _ _ _ moved.0 moved.1)
          c.pieces.invariant.cut c.if-piece.false (moved.2, moved.3);
    }

-- the record ends with the piece
pub returns-then-piece-clause-given : goal.returns-then-piece-clause-given
returns-then-piece-clause-given g c =
    let old = c.pieces.self.content.items in
    let piece = c.piece-piece in
    let new = c.extend_from_slice.new.self.items in
    let moved = piece_taken _ _ _ _ _ _ piece.result.content piece.result.taken piece.result.ended
    c.as_slice-bytes.ensures c.skip.ensures (search (rules, c.in-Ok.ensures.items))
    piece.ensures.all (piece.ensures.adds old (search rules)) in
    next_given _ _ _ _ _ _ _ _ _ moved.0 (read_ahead _ _ _ _ _ c.pieces.invariant.so_far
    c.fill.ensures.bytes) (used _ _ _ moved.0 moved.1) c.pieces.invariant.cut
    c.pieces.invariant.fresh c.pieces.invariant.over (subst (Adds c.pieces.self.cut old moved.0 new)
    c.if-piece.true moved.2)

pub returns-in_err-fill-clause-taken : goal.returns-in_err-fill-clause-taken
returns-in_err-fill-clause-taken g c =
    let p = err_from_is_err_and c.from_residual.result c.from_residual.ensures.1 in
    rw p.1 (taken _ _ _ _ _ _ c.pieces.invariant.so_far c.fill.ensures.bytes refl)

-- the record is longer than the limit, or than the capacity of the buffer
pub returns-then-piece-self-clause-long : goal.returns-then-piece-self-clause-long
returns-then-piece-self-clause-long g c = λ _.
    let piece = c.piece-piece in
    rw c.pieces.invariant.fresh (no_room _ _ _ _ c.pieces.invariant.so_far c.fill.ensures.bytes
    (omega (arith, c.pieces.invariant.limit)) (rw (c.as_slice-bytes.ensures, c.pieces.invariant.cut)
    at (grows_long c.pieces.self.limit _ _ _ piece.result.content piece.result.taken
    piece.result.ended piece.ensures.within.0 piece.ensures.within.1 (grind (arith, common_steps))
    (piece.ensures.adds c.pieces.self.content.items (search rules)))))

pub returns-in-Err-clause-memory : goal.returns-in-Err-clause-memory
returns-in-Err-clause-memory g c = λ _.
    let piece = c.piece-piece in
    rw c.pieces.invariant.fresh (no_room _ _ _ _ c.pieces.invariant.so_far c.fill.ensures.bytes
    c.pieces.invariant.room (rw (c.as_slice-bytes.ensures, c.pieces.invariant.cut)
    at (grows_long (vec_capacity c.pieces.self.content) _ _ _ piece.result.content
    piece.result.taken piece.result.ended piece.ensures.within.0 piece.ensures.within.1
    (search rules) (piece.ensures.adds c.pieces.self.content.items (search rules)))))
