use Rattle.std.proofs.Common.{◌++◌, sym, subst, arith}
use Rattle.tape_image.specs.Reader.{IfKnown}
use Rattle.tape_run.specs.{SessionState.SessionState, Comparing.FindsAll, Comparing.core_before}
use Rattle.tape_run.proofs.ComparedSinks.{too_heavy, front_weighs, last_weighs, same_or_front}
use Rattle.tape_run.proofs.session.Session.differs.Goals as goal

pub returns-then-weight-overlap-clause-other : goal.returns-then-weight-overlap-clause-other
returns-then-weight-overlap-clause-other g c front last has w =
    let there : g.S.PartSink.holds c.self.inside.reel_reader.sink (front ++ last) =
    subst (λ (z : SessionState g.row.S.Denot). g.S.PartSink.holds z.sink (front ++ last))
    (sym c.self.view_is) has in
    absurd (too_heavy c.weight-weight.result c.args.overlap.now.weight front last
    (c.weight-weight.ensures.of (front ++ last) there) w (omega (arith, c.if-weight-overlap.true)))

pub returns-in-Other-clause-other : goal.returns-in-Other-clause-other
returns-in-Other-clause-other g c front last has w =
    let there : g.S.PartSink.holds c.self.inside.reel_reader.sink (front ++ last) =
    subst (λ (z : SessionState g.row.S.Denot). g.S.PartSink.holds z.sink (front ++ last))
    (sym c.self.view_is) has in
    subst (λ found. IfKnown (g.R.Read.remaining c.args.device.now)
    (g.R.Read.remaining c.compare_from.new.device) (λ bytes left. FindsAll c.args.self.now.wide
    c.args.overlap.now (core_before c.args.self.now.core) bytes found last)) c.in-Other.is
    (c.in_ok-compare_from.ensures.found front last has (front_weighs c.weight-weight.result _
    c.args.overlap.now.weight front last (c.weight-weight.ensures.of (front ++ last) there) w
    (omega (arith, c.if-weight-overlap.false))))

pub returns-in_default-clause-same : goal.returns-in_default-clause-same
returns-in_default-clause-same g c held has =
    let there : g.S.PartSink.holds c.self.inside.reel_reader.sink held =
    subst (λ (z : SessionState g.row.S.Denot). g.S.PartSink.holds z.sink held)
    (sym c.self.view_is) has in
    let (front, last, e, w) =
    c.in_ok-compare_from.ensures.there c.in_default.not-Other held has in (
      front,
      last,
      e,
      last_weighs c.weight-weight.result _ c.args.overlap.now.weight held front last
          (c.weight-weight.ensures.of held there) e w
          (omega (arith, c.if-weight-overlap.false)),
      same_or_front c.args.self.now.wide c.args.overlap.now (core_before c.args.self.now.core) _ _
          last c.in_ok-compare_from.field-0 c.in_default.not-Other
          (c.in_ok-compare_from.ensures.found front last
          (subst (g.S.PartSink.holds c.args.self.now.sink) e has) w),
    )
