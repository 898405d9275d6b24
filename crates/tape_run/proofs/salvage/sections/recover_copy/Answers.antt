use Rattle.tape_image.proofs.Pieces.{on_err}
use Rattle.tape_run.proofs.SalvageBegun.{line_begun, items_begun, end_begun}
use Rattle.tape_run.proofs.SalvageOne.{copy_taken}
use Rattle.tape_run.proofs.salvage.sections.recover_copy.Goals as goal

pub returns-clause-ok : goal.returns-clause-ok
returns-clause-ok g c =
    let k = c.args.copy.now in
    copy_taken g.W.Write.contents _ _ k c.args.sect c.args.form.now
    c.start.result c.believed.result _ _ _ _ _ _ _ c.in_ok-end.end c.in_ok-read.read
    c.start.ensures c.believed.ensures
    (rw c.saturating_add-number.ensures at c.in_ok-write_line.ensures.ok)
    c.in_ok-read.ensures.ok c.in_ok-end.ensures.ok.1 c.in_ok-end.ensures.ok.0

pub returns-in_err-write_line-clause-front : goal.returns-in_err-write_line-clause-front
returns-in_err-write_line-clause-front g c =
    let k = c.args.copy.now in
    on_err c.from_residual.result _ (line_begun g.W.Write.contents _ k c.args.sect
    c.args.form.now c.args.recovery.now _ _
    (rw c.saturating_add-number.ensures at c.in_err-write_line.ensures.err))

pub returns-in_err-read-clause-front : goal.returns-in_err-read-clause-front
returns-in_err-read-clause-front g c =
    let k = c.args.copy.now in
    on_err c.from_residual-in_err-read.result _ (items_begun g.W.Write.contents _ k c.args.sect
    c.args.form.now c.start.result c.believed.result c.args.recovery.now _ _ _ c.start.ensures
    c.believed.ensures
    (rw c.saturating_add-number.ensures at c.in_ok-write_line.ensures.ok)
    c.in_err-read.ensures.front)

pub returns-in_err-end-clause-front : goal.returns-in_err-end-clause-front
returns-in_err-end-clause-front g c =
    let k = c.args.copy.now in
    on_err c.from_residual-in_err-end.result _ (end_begun g.W.Write.contents _ _ k c.args.sect
    c.args.form.now c.start.result c.believed.result c.args.recovery.now _ _ _ _ _
    c.in_ok-read.read c.start.ensures c.believed.ensures
    (rw c.saturating_add-number.ensures at c.in_ok-write_line.ensures.ok)
    c.in_ok-read.ensures.ok c.in_err-end.ensures.front)
