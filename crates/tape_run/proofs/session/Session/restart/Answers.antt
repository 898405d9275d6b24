use Rattle.std.proofs.Common.{◌≡◌, Some, [], ap, subst, arith, slice_get, refl, inr}
use Rattle.std.proofs.{lemmas.Grind.common_steps, lemmas.Option.gets}
use Rattle.tape_core.specs.Place.{rest_of}
use Rattle.tape_run.proofs.{Crashes.cut_only, Notes.front_weighs}
use Rattle.tape_run.proofs.Sessions.{goes_back, kept_at, session_of}
use Rattle.tape_run.proofs.session.Session.restart.Goals as goal

pub returns-clause-ok : goal.returns-clause-ok
returns-clause-ok g c =
    rw (← c.self.view_is) (λ held was kept.
    let s = c.self.inside in
    let point = c.in-Some.field-0.now in
    let refusals = g.S.PartSink.refusals in
    let noted : slice_get s.notes.items c.args.n ≡ Some point = grind (arith, common_steps, gets) in
    let back = goes_back c.args.n point (rest_of s.reel_reader.core)
    (rest_of c.at-self-inside.result) held s.notes.items c.truncate.new.self.items s.failures
    (refusals s.reel_reader.sink) (refusals c.cut_to.new.self) s.reel_reader.wide noted kept
    (ap rest_of c.at-self-inside.ensures) c.truncate.ensures.items c.in-Ok.ensures.calm in (
      back.parts,
      c.in-Ok.ensures.ok back.parts back.front.0
          (subst (g.S.PartSink.holds s.reel_reader.sink) back.front.1 was) back.weighs,
      (back.kept, back.went),
    ))

pub returns-clause-place : goal.returns-clause-place
returns-clause-place g c =
    rw (← c.self.view_is) (λ point is.
    let s = c.self.inside in
    let noted : slice_get s.notes.items c.args.n ≡ Some c.in-Some.field-0.now =
    grind (arith, common_steps, gets) in
    let same : point ≡ c.in-Some.field-0.now = cc in
    rw same (ap rest_of c.at-self-inside.ensures))

pub returns-then-point-weight-clause-refuses : goal.returns-then-point-weight-clause-refuses
returns-then-point-weight-clause-refuses g c =
    rw (← c.self.view_is) (
      refl,
      inr (
        refl,
        refl,
        λ held was kept.
            let s = c.self.inside in
            let point = c.in-Some.field-0.now in
            let noted : slice_get s.notes.items c.args.n ≡ Some point =
            grind (arith, common_steps, gets) in
            let at = kept_at (rest_of s.reel_reader.core) [] s.notes.items c.args.n point held noted
            kept in
            absurd (omega (
              arith,
              c.weight.ensures.of held was,
              front_weighs at.ps held at.is_front,
              at.note.staged,
              c.if-point-weight.true,
              ap (λ z. z.staged) c.point.view_is,
              ap (λ z. z.staged) c.in-Some.point-is,
            )),
      ),
    )

pub returns-in-Err-clause-crash : goal.returns-in-Err-clause-crash
returns-in-Err-clause-crash g c =
    rw (← c.self.view_is) (λ held was kept.
    let s = c.self.inside in
    let point = c.in-Some.field-0.now in
    let noted : slice_get s.notes.items c.args.n ≡ Some point = grind (arith, common_steps, gets) in
    let here = session_of (rest_of s.reel_reader.core) held s.notes.items s.failures
    (g.S.PartSink.refusals s.reel_reader.sink) s.reel_reader.wide in
    cut_only here c.args.n point _ _ noted kept (g.S.PartSink.holds s.reel_reader.sink) was
    c.cut_to.ensures.crash)

pub returns-clause-crash : goal.returns-clause-crash
returns-clause-crash g c =
    rw (← c.self.view_is) (λ held was kept.
    let s = c.self.inside in
    let point = c.in-Some.field-0.now in
    let noted : slice_get s.notes.items c.args.n ≡ Some point = grind (arith, common_steps, gets) in
    let here = session_of (rest_of s.reel_reader.core) held s.notes.items s.failures
    (g.S.PartSink.refusals s.reel_reader.sink) s.reel_reader.wide in
    cut_only here c.args.n point _ _ noted kept (g.S.PartSink.holds s.reel_reader.sink) was
    c.cut_to.ensures.crash)
