use Rattle.std.proofs.Common.{inr, refl, sym, subst, ◌+◌, option_map}
use Rattle.tape_image.proofs.Pieces.{on_err}
use Rattle.tape_run.specs.{SalvageLine.not_opened_line, SalvageLine.stopped_line, Salvaging.FindsOn}
use Rattle.tape_run.proofs.salvage.find_on.Goals as goal

pub returns-in_err-write_line-in-None-clause-front :
    goal.returns-in_err-write_line-in-None-clause-front
returns-in_err-write_line-in-None-clause-front g c =
    let task = c.args.task.now in
    let line = not_opened_line (c.args.number + 1) in
    on_err c.from_residual-in_err-write_line-in-None.result _ (inr (
      line,
      subst (λ i. FindsOn task.set_id task.file c.args.number (option_map g.R.Read.remaining i)
          c.args.copies.now.items c.args.copies.now.items line) (sym c.in-None.is) (refl, refl),
      c.in_err-write_line-in-None.ensures.err,
    ))

pub returns-in_ok-write_line-in-None-clause-ok : goal.returns-in_ok-write_line-in-None-clause-ok
returns-in_ok-write_line-in-None-clause-ok g c =
    let task = c.args.task.now in
    let line = not_opened_line (c.args.number + 1) in (
      line,
      subst (λ i. FindsOn task.set_id task.file c.args.number (option_map g.R.Read.remaining i)
          c.args.copies.now.items c.args.copies.now.items line) (sym c.in-None.is) (refl, refl),
      c.in_ok-write_line-in-None.ensures.ok,
    )

pub returns-in_err-write_stop-in-Some-clause-front :
    goal.returns-in_err-write_stop-in-Some-clause-front
returns-in_err-write_stop-in-Some-clause-front g c =
    let task = c.args.task.now in
    let line = stopped_line (c.args.number + 1) c.in_ok-stop-in-Some.stop in
    on_err c.from_residual-in_err-write_stop-in-Some.result _ (inr (
      line,
      subst (λ i. FindsOn task.set_id task.file c.args.number (option_map g.R.Read.remaining i)
          c.args.copies.now.items c.copies_on.new.copies.items line) (sym c.in-Some.is)
          (_, _, c.in_ok-stop-in-Some.ensures.ok, refl),
      c.in_err-write_stop-in-Some.ensures.front,
    ))
