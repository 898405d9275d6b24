use Rattle.std.proofs.Common.{◌≡◌, ◌<◌, option_map, rules, arith}
use Rattle.std.proofs.lemmas.Result.{on_err_weaker, IfOk-weaker}
use Rattle.tape_image.proofs.Pieces.{on_err}
use Rattle.tape_run.specs.Checked.{AddsImage}
use Rattle.tape_run.proofs.Reporting.{starts, one_more, not_mounted, not_read, line_stops}
use Rattle.tape_run.proofs.Reporting.{told_all, reported, reported_in_part}
use Rattle.tape_run.proofs.check.check_to.Goals.{in-Some+in_ok-add-in-Some, in-None}
use Rattle.tape_run.proofs.check.check_to.Goals as goal

pub loop-number-init : goal.loop-number-init
loop-number-init g c =
    starts g.L.ImageSource.gives g.R.Read.remaining _ _ _ (search rules)

pub returns-in_err-image-clause-front : goal.returns-in_err-image-clause-front
returns-in_err-image-clause-front g c =
    let within : c.loop-number.number < g.L.ImageSource.size c.args.images.now =
    omega (arith, c.loop-number-test.true, c.count-number-end.ensures) in
    on_err c.from_residual.result _ (not_mounted g.L.ImageSource.size g.L.ImageSource.gives
    g.R.Read.remaining _ c.loop-number.images _ c.loop-number.number _ _ _ within
    c.in_err-image.ensures.err c.loop-number.invariant)

pub returns-in_err-add-in-Some-clause-front : goal.returns-in_err-add-in-Some-clause-front
returns-in_err-add-in-Some-clause-front g c =
    let within : c.loop-number.number < g.L.ImageSource.size c.args.images.now =
    omega (arith, c.loop-number-test.true, c.count-number-end.ensures) in
    on_err c.from_residual-in_err-add-in-Some.result _ (not_read g.L.ImageSource.size
    g.L.ImageSource.gives g.R.Read.remaining _ _ _ c.loop-number.number _ _ _
    c.in_ok-image.image within c.loop-number.invariant c.in_ok-image.ensures.ok)

pub returns-in_err-pass_line-clause-front : goal.returns-in_err-pass_line-clause-front
returns-in_err-pass_line-clause-front g c =
    let within : c.loop-number.number < g.L.ImageSource.size c.args.images.now =
    omega (arith, c.loop-number-test.true, c.count-number-end.ensures) in
    let adds : AddsImage (option_map g.R.Read.remaining c.in_ok-image.image) c.match-image.met
    c.loop-number.catalogue c.match-image.catalogue = elim c.match-image.branch [
      | in-Some+in_ok-add-in-Some w ↦
          rw (w.in-Some.is, w.met-is, w.catalogue-is) (_, w.in_ok-add-in-Some.ensures.ok)
      | in-None w ↦ search rules
    ] in
    on_err c.from_residual-in_err-pass_line.result _ (line_stops g.L.ImageSource.size
    g.L.ImageSource.gives g.R.Read.remaining _ _ _ c.loop-number.number _ _ _ _ _
    c.in_ok-image.image c.match-image.met within c.loop-number.invariant c.in_ok-image.ensures.ok
    adds c.in_err-pass_line.ensures.err)

pub loop-number-preserved : goal.loop-number-preserved
loop-number-preserved g c =
    let adds : AddsImage (option_map g.R.Read.remaining c.in_ok-image.image) c.match-image.met
    c.loop-number.catalogue c.match-image.catalogue = elim c.match-image.branch [
      | in-Some+in_ok-add-in-Some w ↦
          rw (w.in-Some.is, w.met-is, w.catalogue-is) (_, w.in_ok-add-in-Some.ensures.ok)
      | in-None w ↦ search rules
    ] in
    one_more g.L.ImageSource.gives g.R.Read.remaining _ _ _ c.loop-number.number _ _ _ _ _
    c.in_ok-image.image c.loop-number.invariant c.in_ok-image.ensures.ok
    (c.match-image.met, adds, c.in_ok-pass_line.ensures.ok)

pub returns-clause-ok : goal.returns-clause-ok
returns-clause-ok g c =
    let same : c.loop-number.catalogue ≡ c.catalogue-2.inside.sections.entries = search rules in
    let told = told_all g.L.ImageSource.size g.L.ImageSource.gives g.R.Read.remaining _ _ _ _ _ _ _
    c.loop-number.invariant (omega (
      arith,
      c.loop-number-test.false,
      c.loop-number.auto.number-end,
      c.count-number-end.ensures,
    )) same in
    IfOk-weaker c.summarize.result _ _ (λ found h. reported _ _ _ _ _ _ _ _ _ _ told h.0 h.1)
    c.summarize.ensures.ok

pub returns-clause-front : goal.returns-clause-front
returns-clause-front g c =
    let same : c.loop-number.catalogue ≡ c.catalogue-2.inside.sections.entries = search rules in
    let told = told_all g.L.ImageSource.size g.L.ImageSource.gives g.R.Read.remaining _ _ _ _ _ _ _
    c.loop-number.invariant (omega (
      arith,
      c.loop-number-test.false,
      c.loop-number.auto.number-end,
      c.count-number-end.ensures,
    )) same in
    on_err_weaker c.summarize.result (λ h. reported_in_part _ _ _ _ _ _ _ _ _ told h)
    c.summarize.ensures.front
