use Rattle.tape_image.proofs.Pieces.{on_err}
use Rattle.tape_run.proofs.{Fitting.kept, Fitting.whole_front}
use Rattle.tape_run.proofs.RecordFronts.{both_written, rest_failed}
use Rattle.tape_run.proofs.extract.write_file.Goals as goal

pub returns-in_err-write_rest-clause-err : goal.returns-in_err-write_rest-clause-err
returns-in_err-write_rest-clause-err g c =
    on_err c.from_residual-in_err-write_rest.result _ (λ parts was.
    let (counted, wrote) = c.in_ok-front.ensures.ok parts was in
    rest_failed c.args.form c.in_ok-front.front.written _ _ _ _ wrote
    (c.in_err-write_rest.ensures.err parts (c.write_front.ensures.kept parts was) counted))

pub returns-in_err-flush-clause-err : goal.returns-in_err-flush-clause-err
returns-in_err-flush-clause-err g c =
    on_err c.from_residual-in_err-flush.result _ (λ parts was.
    let (counted, wrote) = c.in_ok-front.ensures.ok parts was in
    whole_front _ _ _ _ (both_written c.args.form c.in_ok-front.front.written _ _ _ _ wrote
    (c.in_ok-write_rest.ensures.ok parts (c.write_front.ensures.kept parts was) counted))
    c.flush.ensures.kept)

pub returns-clause-ok : goal.returns-clause-ok
returns-clause-ok g c = λ parts was.
    let (counted, wrote) = c.in_ok-front.ensures.ok parts was in (
      counted,
      kept _ _ _ _ (both_written c.args.form c.in_ok-front.front.written _ _ _ _ wrote
          (c.in_ok-write_rest.ensures.ok parts (c.write_front.ensures.kept parts was) counted))
          c.flush.ensures.kept,
    )
