use Rattle.std.proofs.Common.{length, rules, arith}
use Rattle.std.proofs.{lemmas.List.length-take, lemmas.Result.err_from_is_err_and}
use Rattle.tape_image.proofs.Taken.{Passes-trans, FallsShort-trans}
use Rattle.tape_image.proofs.block.pass.Goals as goal

pub returns-in_err-fill_all : goal.returns-in_err-fill_all
returns-in_err-fill_all g c =
    let p = err_from_is_err_and c.from_residual.result c.from_residual.ensures.1 in
    let passed = c.pieces.invariant.passed in
    rw (p.1, p.2) (FallsShort-trans _ _ _ passed.bytes (length c.fill_all.new.buffer) c.args.count _
    passed.taken (omega (
      arith,
      passed.count,
      c.fill_all.auto.buffer,
      length-take c.min-piece.result c.pieces.buffer,
    )) c.in_err-fill_all.ensures)

pub pieces-preserved : goal.pieces-preserved
pieces-preserved g c = record {
  within = search rules;
  passed = Passes-trans _ _ _ c.pieces.done c.min-piece.result c.pieces.invariant.passed
      (record {
        bytes = c.fill_all.new.buffer;
        taken = c.in_ok-fill_all.ensures;
        count =
            omega (arith, c.fill_all.auto.buffer, length-take c.min-piece.result c.pieces.buffer);
      });
}
