use Rattle.std.proofs.Common.{sym, ap, ◌∙◌, refl, rules, Bool, List, Option, ℕ}
use Rattle.std.specs.Prelude.{is_some}
use Rattle.tape_core.specs.{Behind.behind_of, State.State, Place.rest_of}
use Rattle.tape_run.specs.{Given.is_device, Given.counted, SessionState.SessionState, Seen.Seen}
use Rattle.tape_run.specs.Steps.{ReeledFrom, ReelFailsFrom}
use Rattle.tape_run.specs.declared.fault.RunFault.TheVariants.{Sink}
use Rattle.tape_run.proofs.Sessions.{some_at, want_none, reel_seen, still_seen, not_read, reeled}
use Rattle.tape_run.proofs.{Sessions.cut_short, GoesBehind.led_nowhere_behind}
use Rattle.tape_run.proofs.GoesBehind.{behind_rest}
use Rattle.tape_run.proofs.session.Session.reel_behind.Goals as goal

abbrev Continued : List ℕ → Option (List ℕ) → Bool → Seen → Seen → Type 0
Continued bytes left failed old new =
    ReeledFrom (behind_of old.place) bytes left failed old new

pub returns-then-is_none-clause-ok : goal.returns-then-is_none-clause-ok
returns-then-is_none-clause-ok g c =
    let finished = want_none _ (rest_of c.self.inside.reel_reader.core).position c.is_none.result
    (ap is_some (sym c.want.ensures.value) ∙ c.is_none.ensures) c.if-is_none.true in
    still_seen g.S.PartSink _ _ _ (λ bytes. Continued bytes (g.R.Read.remaining
    c.args.device.now) (is_device c.new.result.fault)) c.self.view_is (λ held bytes. not_read _
    c.self.inside.reel_reader.core bytes _ _ _ (ap is_device c.new.ensures.fault) refl
    (λ xs. led_nowhere_behind c.self.inside.reel_reader.wide c.self.inside.reel_reader.core held xs
    finished))

pub returns-in-Ok-read-clause-ok : goal.returns-in-Ok-read-clause-ok
returns-in-Ok-read-clause-ok g c =
    let end = c.in-Ok-read.ensures in
    let core = c.self.inside.reel_reader.core in
    let set_id = end.set_id ∙ ap (λ (z : State). z.set_id) c.mount_behind.ensures.same in
    let file = end.file ∙ ap (λ (z : State). z.file) c.mount_behind.ensures.same in
    let new : SessionState _ =
    record {
      core = c.read-read.new.self.core;
      sink = c.read-read.new.self.sink;
      notes = c.self.inside.notes.items;
      failures = c.counted-self-inside.result;
      wide = c.read-read.new.self.wide;
    } in
    reel_seen g.S.PartSink _ _ new _ (λ bytes. Continued bytes _
    (is_device c.in-Ok-read.answer.fault))
    c.self.view_is refl set_id file (λ held was. let (now, has, front, reads) = end.ok held was in (
      now,
      has,
      front,
      some_at _ c.over-image.result.left _ _ c.over-image.ensures.unread
          (λ bytes r. reeled _ _
          (is_device c.in-Ok-read.answer.fault) end.wide core c.mount_behind.new.self _
          c.read-read.new.self.core held now bytes _ _ c.self.inside.notes.items
          c.self.inside.failures c.counted-self-inside.result _ _ (search rules) set_id file
          end.calm front (c.counted-self-inside.ensures
          ∙ ap (λ b. counted b c.self.inside.failures) c.is_device.ensures)
          (c.mount_behind.ensures.table ∙ behind_rest core) r) reads,
    ))

pub returns-in-Err-clause-err : goal.returns-in-Err-clause-err
returns-in-Err-clause-err g c =
    let end = c.in-Err.ensures in
    let core = c.self.inside.reel_reader.core in
    let set_id = end.set_id ∙ ap (λ (z : State). z.set_id) c.mount_behind.ensures.same in
    let file = end.file ∙ ap (λ (z : State). z.file) c.mount_behind.ensures.same in
    let new : SessionState _ =
    record {
      core = c.read-read.new.self.core;
      sink = c.read-read.new.self.sink;
      notes = c.self.inside.notes.items;
      failures = c.self.inside.failures;
      wide = c.read-read.new.self.wide;
    } in
    reel_seen g.S.PartSink _ _ new _ (λ bytes was is. ReelFailsFrom (behind_of was.place) bytes
    (Sink c.in-Err.cause) was is)
    c.self.view_is refl set_id file (λ held was. let (now, has, front, cuts) = end.err held was in (
      now,
      has,
      front,
      some_at _ c.over-image.result.left _ _ c.over-image.ensures.unread
          (λ bytes t. cut_short _ _ end.wide core c.mount_behind.new.self _
          c.read-read.new.self.core held now
          bytes c.self.inside.notes.items c.self.inside.failures _ _ set_id file front
          (c.mount_behind.ensures.table ∙ behind_rest core) t) cuts,
    ))
