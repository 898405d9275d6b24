use Rattle.std.proofs.lemmas.Result.{on_err_weaker}
use Rattle.tape_image.proofs.Pieces.{on_err, front_more, front_behind}
use Rattle.tape_run.proofs.salvage.recovery.write_refused.Goals as goal

pub returns-in_err-write_torn-in-Some-clause-front :
    goal.returns-in_err-write_torn-in-Some-clause-front
returns-in_err-write_torn-in-Some-clause-front g c = on_err c.from_residual.result _
    (rw c.in-Some.is (front_more _ _ _ _ c.in_err-write_torn-in-Some.ensures.front))

pub returns-in_ok-write_torn-in-Some-clause-front :
    goal.returns-in_ok-write_torn-in-Some-clause-front
returns-in_ok-write_torn-in-Some-clause-front g c =
    on_err_weaker c.write_line.result (λ part. rw c.in-Some.is
    (front_behind _ _ _ _ _ c.in_ok-write_torn-in-Some.ensures.ok
    (rw c.number-cause.ensures at part))) c.write_line.ensures.err
