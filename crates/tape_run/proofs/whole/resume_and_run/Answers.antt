use Rattle.std.proofs.Common.{map, [], subst, arith}
use Rattle.std.proofs.lemmas.Result.{IfErr-weaker, on_ok_weaker}
use Rattle.tape_run.specs.{CrashRuns.LivesOn, Seen.seen}
use Rattle.tape_run.proofs.{CrashRuns.lives_on}
use Rattle.tape_run.proofs.whole.resume_and_run.Goals as goal

pub returns-clause-crash : goal.returns-clause-crash
returns-clause-crash g c = λ held was bytes e.
    let crashes = g.S.PartSink.crashes in
    let point = c.args.point.now in
    let steps = c.args.steps.now in
    let first = c.resume-session.result in
    let last = crashes c.run-result.new.session.sink in
    let left = map g.R.Read.remaining c.run-result.new.reels in
    let resumed = c.resume-session.ensures.resumed held in
    let adds = c.run-result.ensures.crash held (rw c.resume-session.ensures.sink was)
    (c.resume-session.ensures.kept held) in
    subst (λ s. LivesOn point held steps bytes left (crashes s).returns last.returns × LivesOn point
    held steps bytes left ((crashes s).returned (crashes s).moment)
    (last.returned (crashes s).moment)) c.resume-session.ensures.sink (
      lives_on _ held _ steps _ _ bytes _ _ resumed e adds.now,
      lives_on _ held _ steps _ _ bytes _ _ resumed e (λ back there h. adds.since
          (crashes first.sink).moment back there (omega arith) h),
    )

pub returns-clause-delivers : goal.returns-clause-delivers
returns-clause-delivers g c = on_ok_weaker c.run-result.result (λ run held was.
    let first = seen g.S.PartSink c.resume-session.result held in
    let (now, has, (k, reads)) = run held (rw c.resume-session.ensures.sink was)
    (c.resume-session.ensures.kept held) in (
      first,
      c.resume-session.ensures.resumed held,
      c.resume-session.ensures.strict,
      (now, has, λ bytes e. (reads bytes e).0),
    ))
    c.run-result.ensures.headline

pub returns-clause-stopped : goal.returns-clause-stopped
returns-clause-stopped g c = IfErr-weaker c.run-result.result _ _ (λ fault run held was.
    let first = seen g.S.PartSink c.resume-session.result held in
    let (now, has, (k, stops)) = run held (rw c.resume-session.ensures.sink was)
    (c.resume-session.ensures.kept held) in (
      first,
      c.resume-session.ensures.resumed held,
      c.resume-session.ensures.strict,
      (now, has, λ bytes e. (stops bytes e).0),
    ))
    c.run-result.ensures.stopped

pub returns-clause-cause : goal.returns-clause-cause
returns-clause-cause g c = IfErr-weaker c.run-result.result _ _ (λ end stops. (
  c.resume-session.result,
  c.resume-session.ensures.sink,
  (c.resume-session.ensures.resumed []).notes,
  stops,
)) c.run-result.ensures.cause
