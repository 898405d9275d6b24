use Rattle.std.proofs.Common.{◌≡◌, ◌<◌, rules, arith}
use Rattle.tape_image.proofs.Pieces.{on_err}
use Rattle.tape_run.proofs.SalvageImages.{one_found, not_opened, stops_at}
use Rattle.tape_run.proofs.salvage.find_copies.Goals as goal

pub loop-number-preserved : goal.loop-number-preserved
loop-number-preserved g c =
    one_found g.L.ImageSource.gives g.R.Read.remaining _ _ _ c.loop-number.images _
    c.loop-number.number
    c.in-Ok.image _ _ _ _ _ c.loop-number.invariant c.in-Ok.ensures.ok c.in_ok-find_on.ensures.ok

pub returns-in_default-clause-front : goal.returns-in_default-clause-front
returns-in_default-clause-front g c =
    let within : c.loop-number.number < g.L.ImageSource.size c.args.images.now =
    omega (arith, c.loop-number-test.true, c.count-number-end.ensures) in
    let stays : c.mount.new.self ≡ c.loop-number.images = search rules in
    not_opened g.L.ImageSource.size g.L.ImageSource.gives g.R.Read.remaining c.args.task.now _
    c.loop-number.images _ c.loop-number.number _ _ _ within stays c.loop-number.invariant

pub returns-in_err-find_on-clause-front : goal.returns-in_err-find_on-clause-front
returns-in_err-find_on-clause-front g c =
    let within : c.loop-number.number < g.L.ImageSource.size c.args.images.now =
    omega (arith, c.loop-number-test.true, c.count-number-end.ensures) in
    on_err c.from_residual.result _
    (stops_at g.L.ImageSource.size g.L.ImageSource.gives g.R.Read.remaining c.args.task.now _
    c.loop-number.images _ c.loop-number.number c.in-Ok.image _ _ _ _ _ within
    c.loop-number.invariant c.in-Ok.ensures.ok c.in_err-find_on.ensures.front)
