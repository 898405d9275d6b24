use Rattle.std.proofs.Common.{◌≡◌, true, rules}
use Rattle.tape_run.proofs.Comparing.{on_true, on_false}
use Rattle.tape_run.proofs.ComparedSinks.{behind_front, found_before, found_all, found_more}
use Rattle.tape_run.proofs.session.compared.overlap.compare_after.Goals as goal

pub returns-in_default-clause-found : goal.returns-in_default-clause-found
returns-in_default-clause-found g c front last has w =
    let yes : c.in_ok-is_found.is_found ≡ true = search rules in
    found_before c.args.wide c.args.overlap.now _ _ _ (g.S.PartWalk.ahead c.compare_all.new.sink)
    last c.in_ok-found.found c.in_default.not-Same (c.in_ok-found.ensures.found last
    (behind_front (g.S.PartSink.holds c.args.sink.now) (g.S.PartWalk.ahead c.skip_to.new.sink)
    c.args.before (on_true _ _ yes c.in_ok-is_found.ensures.yes) front last has w))

pub returns-in_default-clause-there : goal.returns-in_default-clause-there
returns-in_default-clause-there g c not parts has =
    let yes : c.in_ok-is_found.is_found ≡ true = search rules in
    let (front, left, e, v, at) = on_true _ _ yes c.in_ok-is_found.ensures.yes parts has in
    (front, left, e, v)

pub returns-then-is_all-clause-found : goal.returns-then-is_all-clause-found
returns-then-is_all-clause-found g c front last has w =
    let yes : c.in_ok-is_found.is_found ≡ true = search rules in
    found_all c.args.wide c.args.overlap.now _ _ _ (g.S.PartWalk.ahead c.compare_all.new.sink)
    last c.in_ok-found.found c.in-Same.is
    (on_true _ _ c.if-is_all.true c.in_ok-is_all.ensures.yes) (c.in_ok-found.ensures.found last
    (behind_front (g.S.PartSink.holds c.args.sink.now) (g.S.PartWalk.ahead c.skip_to.new.sink)
    c.args.before (on_true _ _ yes c.in_ok-is_found.ensures.yes) front last has w))

pub returns-else-is_all-clause-found : goal.returns-else-is_all-clause-found
returns-else-is_all-clause-found g c front last has w =
    let yes : c.in_ok-is_found.is_found ≡ true = search rules in
    found_more c.args.wide c.args.overlap.now _ _ _ (g.S.PartWalk.ahead c.compare_all.new.sink)
    last c.in_ok-found.found c.in-Same.is
    (on_false _ _ c.if-is_all.false c.in_ok-is_all.ensures.no) (c.in_ok-found.ensures.found last
    (behind_front (g.S.PartSink.holds c.args.sink.now) (g.S.PartWalk.ahead c.skip_to.new.sink)
    c.args.before (on_true _ _ yes c.in_ok-is_found.ensures.yes) front last has w))
