use Rattle.std.proofs.Common.{◌<◌, arith}
use Rattle.tape_image.proofs.Pieces.{on_err}
use Rattle.tape_run.specs.{SalvageChoice.last_section}
use Rattle.tape_run.proofs.SalvageConflicts.{next_reported, reported_front}
use Rattle.tape_run.proofs.SalvageConflicts.{copies_front, labels_front}
use Rattle.tape_run.proofs.salvage.conflicts.report_conflicts.Goals as goal

pub loop-before-preserved : goal.loop-before-preserved
loop-before-preserved g c = next_reported _ c.loop-before.before _ _ _ _ _ _ _ _ _ _ _ _
    c.form_of_file-known.ensures c.loop-before.invariant c.best_copy-best.ensures c.or-first.ensures
    c.as_read.ensures
    c.in_ok-any.ensures.any c.in_ok-any.ensures.text
    c.in_ok-any-2.ensures.any c.in_ok-any-2.ensures.text

pub returns-in_err-any-clause-front : goal.returns-in_err-any-clause-front
returns-in_err-any-clause-front g c =
    let within : c.loop-before.before < last_section c.args.copies.now =
    omega (arith, c.loop-before-test.true, c.last_section-last.ensures) in
    on_err c.from_residual.result _ (reported_front _ c.loop-before.before _ _ _ _ _ _ _ _ within
    c.loop-before.invariant c.best_copy-best.ensures c.or-first.ensures
    (copies_front c.args.copies.now _ c.or-first.result c.best_copy-best.result _ _ _
    c.form_of_file-known.ensures c.as_read.ensures c.in_err-any.ensures.front))

pub returns-in_err-any-2-clause-front : goal.returns-in_err-any-2-clause-front
returns-in_err-any-2-clause-front g c =
    let within : c.loop-before.before < last_section c.args.copies.now =
    omega (arith, c.loop-before-test.true, c.last_section-last.ensures) in
    on_err c.from_residual-in_err-any-2.result _ (reported_front _ c.loop-before.before _ _ _ _ _ _
    _ _ within c.loop-before.invariant c.best_copy-best.ensures c.or-first.ensures
    (labels_front c.args.copies.now _ c.or-first.result c.best_copy-best.result _ _ _ _
    c.form_of_file-known.ensures c.as_read.ensures c.in_ok-any.ensures.text c.in_err-any-2.ensures.front))
