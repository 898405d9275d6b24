use Rattle.std.proofs.Common.{◌≡◌, arith}
use Rattle.tape_image.proofs.Pieces.{on_err}
use Rattle.tape_run.specs.{SalvageChoice.last_section, SalvageTaking.next_section}
use Rattle.tape_run.proofs.SalvageTaking.{none_taken, more_taken, ends_file, continues_file}
use Rattle.tape_run.proofs.SalvageBegun.{stops_in, stops_last}
use Rattle.tape_run.proofs.salvage.sections.recover_sections.Goals as goal

pub loop-before-init : goal.loop-before-init
loop-before-init g c = none_taken g.W.Write.contents g.L.ImageSource.gives g.R.Read.remaining
    c.args.copies.now c.args.content _ _ _ _

pub loop-before-preserved : goal.loop-before-preserved
loop-before-preserved g c =
    more_taken g.W.Write.contents g.L.ImageSource.gives g.R.Read.remaining c.args.copies.now
    c.args.content _ c.loop-before.before _ _ _ _ _ _ _ _ _ _ _ c.loop-before.invariant
    c.in_ok-end.ensures.ok (c.ends_file.ensures.no c.if-ends_file.false)

pub returns-then-ends_file-clause-ok : goal.returns-then-ends_file-clause-ok
returns-then-ends_file-clause-ok g c = ends_file g.W.Write.contents g.L.ImageSource.gives
    g.R.Read.remaining c.args.copies.now c.args.content _ c.loop-before.before _ _ _ _ _ _ _ _ _ _ _
    (omega (arith, c.loop-before-test.true, c.last_section-last.ensures)) c.loop-before.invariant
    c.in_ok-end.ensures.ok (c.ends_file.ensures.yes c.if-ends_file.true)
    c.form_of_file-form.ensures

pub returns-in_ok-miss_section-in-Continues-clause-ok :
    goal.returns-in_ok-miss_section-in-Continues-clause-ok
returns-in_ok-miss_section-in-Continues-clause-ok g c =
    let n = c.loop-before.before in
    let all : n ≡ last_section c.args.copies.now =
    omega (
      arith,
      c.loop-before-test.false,
      c.loop-before.auto.before-end,
      c.last_section-last.ensures,
    ) in
    let next : c.saturating_add.result ≡ next_section n =
    omega (arith, c.saturating_add.ensures, all, c.last_section-last.ensures) in
    continues_file g.W.Write.contents g.L.ImageSource.gives g.R.Read.remaining
    c.args.copies.now c.args.content _ n _ _ _ _ _ _ _ _ _ all c.loop-before.invariant
    c.in-Continues.is c.form_of_file-form.ensures
    (rw next at c.in_ok-miss_section-in-Continues.ensures.ok)

pub returns-in_err-end-clause-front : goal.returns-in_err-end-clause-front
returns-in_err-end-clause-front g c =
    on_err c.from_residual.result _ (stops_in g.W.Write.contents g.L.ImageSource.gives
    g.R.Read.remaining c.args.copies.now c.args.content _ c.loop-before.before _ _ _ _ _ _ _ _ _
    (omega (arith, c.loop-before-test.true, c.last_section-last.ensures))
    c.form_of_file-form.ensures c.loop-before.invariant c.in_err-end.ensures.front)

pub returns-in_err-miss_section-in-Continues-clause-front :
    goal.returns-in_err-miss_section-in-Continues-clause-front
returns-in_err-miss_section-in-Continues-clause-front g c =
    let n = c.loop-before.before in
    let all : n ≡ last_section c.args.copies.now =
    omega (
      arith,
      c.loop-before-test.false,
      c.loop-before.auto.before-end,
      c.last_section-last.ensures,
    ) in
    let next : c.saturating_add.result ≡ next_section n =
    omega (arith, c.saturating_add.ensures, all, c.last_section-last.ensures) in
    on_err c.from_residual-in_err-miss_section-in-Continues.result _ (stops_last g.W.Write.contents
    g.L.ImageSource.gives g.R.Read.remaining c.args.copies.now c.args.content _ n _ _ _ _ _ _ _ _
    all c.form_of_file-form.ensures c.loop-before.invariant c.in-Continues.is
    (rw next at c.in_err-miss_section-in-Continues.ensures.front))
