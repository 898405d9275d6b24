use Rattle.std.proofs.Common.{refl}
use Rattle.tape_image.proofs.Pieces.{on_err}
use Rattle.tape_run.proofs.RecordWrites.{head_failed, front_failed, last_failed, end_failed}
use Rattle.tape_run.proofs.extract.records.write_record.Goals as goal

pub returns-in_err-write_head-clause-err : goal.returns-in_err-write_head-clause-err
returns-in_err-write_head-clause-err g c = on_err c.from_residual.result _
    (head_failed c.args.form _ c.args.front.now c.args.last.now _ _ refl
    c.in_err-write_head.ensures.err)

pub returns-in_err-write_text-clause-err : goal.returns-in_err-write_text-clause-err
returns-in_err-write_text-clause-err g c = on_err c.from_residual-in_err-write_text.result _
    (front_failed c.args.form _ c.args.front.now c.args.last.now _ _ _ refl
    c.in_ok-write_head.ensures.ok c.in_err-write_text.ensures.err)

pub returns-in_err-write_text-2-clause-err : goal.returns-in_err-write_text-2-clause-err
returns-in_err-write_text-2-clause-err g c = on_err c.from_residual-in_err-write_text-2.result _
    (last_failed c.args.form _ c.args.front.now c.args.last.now _ _ _ _ refl
    c.in_ok-write_head.ensures.ok c.in_ok-write_text.ensures.ok c.in_err-write_text-2.ensures.err)

pub returns-in_err-write_text-3-clause-err : goal.returns-in_err-write_text-3-clause-err
returns-in_err-write_text-3-clause-err g c = on_err c.from_residual-in_err-write_text-3.result _
    (end_failed c.args.form _ c.args.front.now c.args.last.now _ _ _ _ _ _ refl
    c.in_ok-write_head.ensures.ok c.in_ok-write_text.ensures.ok c.in_ok-write_text-2.ensures.ok
    c.record_end.ensures c.in_err-write_text-3.ensures.err)
