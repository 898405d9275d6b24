use Rattle.std.proofs.Common.{◌≡◌, ◌-◌, Bool, true, false, length, Some, refl, sym, subst, ◌∙◌}
use Rattle.std.proofs.Common.{arith, rules, inl, inr, ap}
use Rattle.tape_run.specs.declared.fault.EngineFault.TheVariants.{Run}
use Rattle.tape_run.specs.Steps.{RestartFails}
use Rattle.std.specs.Bool.{OnTrue, OnFalse}
use Rattle.tape_run.specs.Seen.{seen}
use Rattle.tape_run.specs.{Reeling.Opened, Reeling.IsTurn, Reeling.is_suspect, Stopping.NotNoted}
use Rattle.std.proofs.lemmas.Bool.{or_parts}
use Rattle.tape_run.specs.{Reeling.counts_differ, declared.reel_reader.ReelAnswer.ReelAnswer}
use Rattle.tape_run.proofs.Causes.{calm_back, calm_reel, calm_saved, calm_then}
use Rattle.tape_run.proofs.{Ended.told_err, Lasting.last_stays, Lasting.last_then}
use Rattle.tape_run.proofs.Left.{left_then, restart_left, save_left}
use Rattle.tape_run.proofs.Settled.{Settled, settled_back, settled_same, settled_saved}
use Rattle.tape_run.proofs.StoppedThere.{one_turn, step_stops}
use Rattle.tape_run.proofs.Turns.{kept_behind, kept_for}
use Rattle.tape_run.proofs.extract.images.read_image.Goals.{
  then-is_suspect+then-back+in_ok-restart,
  then-is_suspect+else-back,
  else-is_suspect+then-not-is_noted+in_ok-save,
  else-is_suspect+else-not-is_noted,
  then-spares,
  else-spares,
}
use Rattle.tape_run.proofs.extract.images.read_image.Goals as goal

on_true : (b : Bool) (P : Type 0) → b ≡ true → OnTrue b P → P
on_true true P e h = h
on_true false P e h = absurd (cc e)

on_false : (b : Bool) (P : Type 0) → b ≡ false → OnFalse b P → P
on_false false P e h = h
on_false true P e h = absurd (cc e)

-- a reel that is not suspect has no wrong count
sure : (again : Bool) (o : ReelAnswer) → is_suspect again o ≡ false
    → counts_differ o.answer ≡ false
sure again o e = (or_parts (counts_differ o.answer) _ e).0

pub returns : goal.returns
returns g c =
    let sink = g.S.PartSink in
    let old = c.args.session.now in
    let mid = c.reel.new.self in
    let new = c.if-is_suspect.session in
    let answer = c.in_ok-answer.answer in
    let suspect = is_suspect c.args.spares answer in
    let settled : Settled sink c.args.back c.args.spares suspect mid new =
    elim c.if-is_suspect.branch [
      | then-is_suspect+then-back+in_ok-restart w ↦
          let n = w.saturating_sub-last.result in
          let last : n ≡ length mid.notes - 1 =
          omega (arith, w.saturating_sub-last.ensures, w.notes.ensures) in
          rw (w.session-is, w.if-back.true, sym c.is_suspect.ensures ∙ w.if-is_suspect.true)
          (settled_back sink c.args.spares mid w.restart.new.self n last w.in_ok-restart.ensures.ok
          w.restart.ensures.crash (calm_back sink mid w.restart.new.self n
          w.in_ok-restart.ensures.calm w.in_ok-restart.ensures.notes w.in_ok-restart.ensures.ok))
      | then-is_suspect+else-back w ↦ rw w.session-is
          (settled_same sink c.args.back c.args.spares suspect mid
          (inl (sym c.is_suspect.ensures ∙ w.if-is_suspect.true, w.if-back.false)))
      | else-is_suspect+then-not-is_noted+in_ok-save w ↦
          rw (w.session-is, sym c.is_suspect.ensures ∙ w.if-is_suspect.false)
          (settled_saved sink c.args.back c.args.spares mid w.save.new.self w.in_ok-save.field-0
          (λ goes. elim w.if-spares.branch [
            | then-spares v ↦ on_false v.is_noted.result _ (search (
              rules,
              v.value-is,
              w.if-not-is_noted.true,
            )) v.is_noted.ensures.no
            | else-spares v ↦ absurd (let e = sym goes ∙ v.if-spares.false in cc)
          ]) w.in_ok-save.ensures.ok w.in_ok-save.ensures.point w.in_ok-save.ensures.kept
          w.save.ensures.crash (calm_saved sink mid w.save.new.self _ w.in_ok-save.ensures.calm
          w.in_ok-save.ensures.notes w.in_ok-save.ensures.ok))
      | else-is_suspect+else-not-is_noted w ↦ rw w.session-is
          (settled_same sink c.args.back c.args.spares suspect mid
          (inr (elim w.if-spares.branch [
            | then-spares v ↦ (
              sym c.is_suspect.ensures ∙ w.if-is_suspect.false,
              v.if-spares.true,
              on_true v.is_noted.result _ (search (
                rules,
                v.value-is,
                w.if-not-is_noted.false,
              )) v.is_noted.ensures.yes,
            )
            | else-spares v ↦ absurd (search (rules, v.value-is, w.if-not-is_noted.false))
          ])))
    ] in
    let opened : Opened = record {
      had = g.R.Read.remaining c.in-Some.device;
      left = g.R.Read.remaining c.reel.new.device;
      answer = answer;
      suspect = suspect;
      noted = settled.noted;
    } in
    record {
      ok = record {
        turn = Some opened;
        is_turn = subst (λ image. IsTurn g.R.Read.remaining image (Some opened))
            (sym c.in-Some.is) (refl, (c.reel.new.device, refl));
        answers = refl;
        follows = λ held was kept.
            let (now, has, (front, keeps, reeled)) = c.in_ok-answer.ensures.ok held was in
            let still = kept_for c.args.back (seen sink old held) (seen sink mid now) keeps kept in
            let (behind, has_behind, (saved, lasts)) = settled.keeps now has still in (
              behind,
              has_behind,
              (
                kept_behind c.args.back c.args.spares suspect opened.noted (seen sink mid now)
                    (seen sink new behind) saved still,
                one_turn sink c.args.back c.args.spares old mid new opened held now behind
                    c.requires.waits c.in_ok-answer.ensures.answer reeled saved refl,
                last_then sink old mid new held now behind
                    (last_stays sink old mid held now c.in_ok-answer.ensures.notes front
                    (c.reel.ensures.crash held was)) lasts,
              ),
            );
      };
      left = tt;
      stops = tt;
      cause = tt;
      calm = calm_then sink old mid new (calm_reel sink old mid _ c.in_ok-answer.ensures.calm
          c.in_ok-answer.ensures.notes c.in_ok-answer.ensures.ok) settled.calm;
    }

pub returns-in_err-restart-clause-left : goal.returns-in_err-restart-clause-left
returns-in_err-restart-clause-left g c =
    told_err _ _ _ c.from_residual-in_err-restart.ensures.1 (λ held was kept.
    let sink = g.S.PartSink in
    let old = c.args.session.now in
    let mid = c.reel.new.self in
    let (now, has, (front, keeps, reeled)) = c.in_ok-answer.ensures.ok held was in
    let still = kept_for c.args.back (seen sink old held) (seen sink mid now) keeps kept in
    let kept_now = rw c.if-back.true at still in
    let n = c.saturating_sub-last.result in
    let last : n ≡ length mid.notes - 1 =
    omega (arith, c.saturating_sub-last.ensures, c.notes.ensures) in
    left_then sink c.args.back _ old mid c.restart.new.self held now c.in_ok-answer.ensures.notes
    front kept (c.reel.ensures.crash held was) (rw c.if-back.true (restart_left sink _ mid
    c.restart.new.self now n last (c.restart.ensures.crash now has kept_now))))

pub returns-in_err-restart-clause-stops : goal.returns-in_err-restart-clause-stops
returns-in_err-restart-clause-stops g c =
    told_err _ _ _ c.from_residual-in_err-restart.ensures.1 (λ held was kept.
    let sink = g.S.PartSink in
    let old = seen sink c.args.session.now held in
    let (now, has, (front, keeps, reeled)) = c.in_ok-answer.ensures.ok held was in
    let mid = seen sink c.reel.new.self now in
    let still = kept_for c.args.back old mid keeps kept in
    let kept_now = rw c.if-back.true at still in
    let (live, fails) = c.in_err-restart.ensures.err now has kept_now in
    let fault = c.in_err-restart.field-0.0 in
    let new = seen sink c.restart.new.self now in
    let n = c.saturating_sub-last.result in
    let last : n ≡ length mid.notes - 1 =
    omega (arith, c.saturating_sub-last.ensures, c.notes.ensures) in
    rw c.in-Some.is (
      now,
      (λ whole. live (λ e. whole (c.if-back.true, ap Run e))),
      step_stops g.R.Read.remaining c.args.back c.args.spares c.in-Some.device
          (g.R.Read.remaining c.reel.new.device) c.in_ok-answer.answer fault old mid new reeled
          (subst (λ b. NotNoted b (is_suspect c.args.spares c.in_ok-answer.answer) fault mid new)
          (sym c.if-back.true) (subst (λ b. NotNoted true b fault mid new)
          (sym (sym c.is_suspect.ensures ∙ c.if-is_suspect.true))
          (subst (λ m. RestartFails m fault mid new) last fails))),
    ))

pub returns-in_err-save-clause-left : goal.returns-in_err-save-clause-left
returns-in_err-save-clause-left g c =
    told_err _ _ _ c.from_residual-in_err-save.ensures.1 (λ held was kept.
    let sink = g.S.PartSink in
    let old = c.args.session.now in
    let mid = c.reel.new.self in
    let new = c.save.new.self in
    let (now, has, (front, keeps, reeled)) = c.in_ok-answer.ensures.ok held was in
    let (end, has_end, fails) = c.in_err-save.ensures.err now has in
    let fault = c.in_err-save.field-0.0 in
    rw c.in-Some.is
    (left_then sink c.args.back _ old mid new held now c.in_ok-answer.ensures.notes front kept
    (c.reel.ensures.crash held was) (save_left sink g.R.Read.remaining c.args.back fault
    c.in-Some.device (g.R.Read.remaining c.reel.new.device) c.in_ok-answer.answer
    (seen sink old held) mid new now end has_end reeled
    (sure c.args.spares c.in_ok-answer.answer
    (sym c.is_suspect.ensures ∙ c.if-is_suspect.false)) fails
    (λ none. c.save.ensures.memory (search (rules, none))) (c.save.ensures.crash now has))))

pub returns-in_err-save-clause-stops : goal.returns-in_err-save-clause-stops
returns-in_err-save-clause-stops g c =
    told_err _ _ _ c.from_residual-in_err-save.ensures.1 (λ held was kept.
    let sink = g.S.PartSink in
    let old = seen sink c.args.session.now held in
    let (now, has, (front, keeps, reeled)) = c.in_ok-answer.ensures.ok held was in
    let (end, has_end, fails) = c.in_err-save.ensures.err now has in
    let mid = seen sink c.reel.new.self now in
    let new = seen sink c.save.new.self end in
    let fault = c.in_err-save.field-0.0 in
    rw c.in-Some.is (
      end,
      (λ live. has_end),
      step_stops g.R.Read.remaining c.args.back c.args.spares c.in-Some.device
          (g.R.Read.remaining c.reel.new.device) c.in_ok-answer.answer fault old mid new reeled
          (subst (λ b. NotNoted c.args.back b fault mid new)
          (sym (sym c.is_suspect.ensures ∙ c.if-is_suspect.false)) fails),
    ))
