use Rattle.std.proofs.Common.{◌≡◌, ◌+◌, [], ◌∷◌, ◌++◌, length, refl, sym, ap, ◌∙◌, arith}
use Rattle.std.proofs.Common.{length-append, map, inl, inr, None}
use Rattle.std.proofs.KnownBytes.{Appends-nil}
use Rattle.tape_run.specs.{ReelLine.reel_lines, Seen.seen, Reeling.answer_of, Reeling.IsTurn}
use Rattle.tape_run.specs.{Reeling.Follows, Causes.RefusesAny}
use Rattle.tape_run.specs.declared.fault.EngineFault.TheVariants.{Run}
use Rattle.tape_run.proofs.{Fitting.whole_text, Lasting.last_same, Lasting.last_then}
use Rattle.tape_run.proofs.Turns.{front_behind, line_behind, one_mounted, follows_then}
use Rattle.tape_run.proofs.{Causes.calm_same, Causes.calm_then, Causes.then_fails}
use Rattle.tape_run.proofs.{Causes.images_fail, Ended.told_err}
use Rattle.tape_run.proofs.Opening.{calm_walked, carries_walked, opening_fails}
use Rattle.tape_run.proofs.{Left.left_saved, Left.left_walked, Left.same_left}
use Rattle.tape_run.proofs.StoppedThere.{stopped_there, stopped_walked}
use Rattle.tape_run.proofs.extract.images.read_round.Goals as goal

pub returns-in_err-outcome-clause-err : goal.returns-in_err-outcome-clause-err
returns-in_err-outcome-clause-err g c =
    let (turns, e, are, lines, none, before, calm) = c.loop-number.invariant in
    let f = carries_walked g.S.PartSink c.args.back c.args.session.now c.loop-number.session
    c.open.new.session (λ core was is. Follows c.args.back c.args.spares c.args.session.now.core was
    turns core is) before c.in_ok-image.ensures.same c.in_ok-image.ensures.calm in
    let mounted = rw (sym e) at c.in_ok-image.ensures.ok in
    told_err _ _ _ c.from_residual-in_err-outcome.ensures.1 (record {
      turns = turns;
      image = c.in_ok-image.image;
      are_turns = (c.loop-number.images, are, inr mounted);
      most = omega (arith, e, c.loop-number-test.true);
      fewer = λ other. omega (arith, e, c.loop-number-test.true);
      no_more = λ none. absurd (omega (arith, none, e, c.loop-number-test.true));
      lines = whole_text _ _ (reel_lines (c.args.lines + 1) (map answer_of turns)) lines;
      told = λ other. lines;
      follows = λ held was kept.
          let (now, has, (still, follows, lasts)) = f held was kept in (
            c.open.new.session.core,
            seen g.S.PartSink c.open.new.session now,
            follows,
            left_saved g.S.PartSink c.args.back _ c.args.session.now c.open.new.session
                c.read_image.new.session held now lasts
                (c.in_err-outcome.ensures.left now has still),
            c.in_err-outcome.ensures.stops now has still,
          );
    })

pub returns-in_err-write_line-clause-err : goal.returns-in_err-write_line-clause-err
returns-in_err-write_line-clause-err g c =
    let (turns, e, are, lines, none, before, calm) = c.loop-number.invariant in
    let f = carries_walked g.S.PartSink c.args.back c.args.session.now c.loop-number.session
    c.open.new.session (λ core was is. Follows c.args.back c.args.spares c.args.session.now.core was
    turns core is) before c.in_ok-image.ensures.same c.in_ok-image.ensures.calm in
    let taken = c.in_ok-outcome.ensures.ok in
    let n = c.args.lines + c.loop-number.number + 1 in
    let number : n ≡ c.args.lines + 1 + length turns = omega (arith, e) in
    let here : c.loop-number.number ≡ 0 + length turns = omega (arith, e) in
    let mounted = rw here at c.in_ok-image.ensures.ok in
    let all = turns ++ taken.turn ∷ [] in
    let count : length all ≡ length turns + 1 = length-append turns (taken.turn ∷ []) in
    told_err _ _ _ c.from_residual-in_err-write_line.ensures.1 (record {
      turns = all;
      image = None;
      are_turns = (
        c.open.new.images,
        one_mounted g.L.ImageSource.gives (IsTurn g.R.Read.remaining) c.args.images.now 0 turns
            c.loop-number.images taken.turn c.in_ok-image.image c.open.new.images are mounted
            taken.is_turn,
        inl (refl, refl),
      );
      most = omega (arith, e, count, c.loop-number-test.true);
      fewer = λ other. absurd (other refl);
      no_more = λ none. refl;
      lines = front_behind (c.args.lines + 1) _ _ _ turns taken.turn n number lines
          (rw (sym taken.answers) at c.in_err-write_line.ensures.err);
      told = λ other. absurd (other refl);
      follows = λ held was kept.
          let (now, has, (still, follows, lasts)) = f held was kept in
          let (next, has_next, (then, one, last)) = taken.follows now has still in (
            c.read_image.new.session.core,
            seen g.S.PartSink c.read_image.new.session next,
            follows_then c.args.back c.args.spares _ _ turns _ _ (taken.turn ∷ []) _ _ follows one,
            left_saved g.S.PartSink c.args.back _ c.args.session.now c.read_image.new.session
                c.read_image.new.session held next
                (last_then g.S.PartSink c.args.session.now c.open.new.session
                c.read_image.new.session held now next lasts last)
                (same_left g.S.PartSink c.args.back _ c.read_image.new.session next),
            stopped_there g.S.PartSink g.R.Read.remaining c.args.back c.args.spares
                c.read_image.new.session next _ has_next,
          );
    })

pub returns-in_err-image-clause-err : goal.returns-in_err-image-clause-err
returns-in_err-image-clause-err g c =
    let (turns, e, are, lines, none, f, calm) = c.loop-number.invariant in
    told_err _ _ _ c.from_residual.ensures.1 (record {
      turns = turns;
      image = None;
      are_turns = (
        c.loop-number.images,
        are,
        elim c.in_err-image.ensures.err [
          | inl stays ↦ inl (refl, stays)
          | inr gives ↦ inr (rw (sym e) at gives)
        ],
      );
      most = omega (arith, e, c.loop-number-test.true);
      fewer = λ other. omega (arith, e, c.loop-number-test.true);
      no_more = λ none. refl;
      lines = whole_text _ _ (reel_lines (c.args.lines + 1) (map answer_of turns)) lines;
      told = λ other. lines;
      follows = λ held was kept.
          let (now, has, (still, follows, lasts)) = f held was kept in (
            c.loop-number.session.core,
            seen g.S.PartSink c.loop-number.session now,
            follows,
            left_walked g.S.PartSink c.args.back _ c.args.session.now c.loop-number.session
                c.open.new.session held now lasts c.in_err-image.ensures.same has,
            stopped_walked g.S.PartSink g.R.Read.remaining c.args.back c.args.spares
                c.loop-number.session c.open.new.session now _ has c.in_err-image.ensures.same,
          );
    })

pub returns-in_err-image-clause-cause : goal.returns-in_err-image-clause-cause
returns-in_err-image-clause-cause g c =
    let (turns, e, are, lines, none, f, calm) = c.loop-number.invariant in
    told_err _ _ _ c.from_residual.ensures.1 (then_fails g.S.PartSink
    (RefusesAny g.S.PartSink g.M.Opener.refuses) c.args.back (Run c.in_err-image.field-0.0)
    c.args.session.now c.loop-number.session c.open.new.session calm
    (opening_fails g.S.PartSink g.M.Opener.refuses c.args.back c.in_err-image.field-0.0
    c.loop-number.session c.open.new.session c.in_err-image.ensures.cause))

pub returns-in_err-outcome-clause-cause : goal.returns-in_err-outcome-clause-cause
returns-in_err-outcome-clause-cause g c =
    let (turns, e, are, lines, none, f, calm) = c.loop-number.invariant in
    let opened = calm_then g.S.PartSink c.args.session.now c.loop-number.session
    c.open.new.session calm (calm_walked g.S.PartSink c.loop-number.session c.open.new.session
    c.in_ok-image.ensures.same c.in_ok-image.ensures.calm) in
    told_err _ _ _ c.from_residual-in_err-outcome.ensures.1 (then_fails g.S.PartSink
    (RefusesAny g.S.PartSink g.M.Opener.refuses) c.args.back (Run c.in_err-outcome.field-0.0)
    c.args.session.now c.open.new.session c.read_image.new.session opened
    (images_fail g.S.PartSink g.M.Opener.refuses c.args.back c.args.back
    (Run c.in_err-outcome.field-0.0) c.open.new.session c.read_image.new.session refl
    c.in_err-outcome.ensures.cause))

pub loop-number-init : goal.loop-number-init
loop-number-init g c = (
  [],
  refl,
  refl,
  Appends-nil _,
  λ zero. refl,
  λ held was kept. (
    held,
    was,
    (
      kept,
      (refl, refl),
      last_same g.S.PartSink c.args.session.now held,
    ),
  ),
  calm_same g.S.PartSink c.args.session.now,
)

pub loop-number-preserved : goal.loop-number-preserved
loop-number-preserved g c =
    let (turns, e, are, lines, none, before, calm) = c.loop-number.invariant in
    let f = carries_walked g.S.PartSink c.args.back c.args.session.now c.loop-number.session
    c.open.new.session (λ core was is. Follows c.args.back c.args.spares c.args.session.now.core was
    turns core is) before c.in_ok-image.ensures.same c.in_ok-image.ensures.calm in
    let n = c.loop-number.number in
    let taken = c.in_ok-outcome.ensures.ok in
    let number : c.args.lines + n + 1 ≡ c.args.lines + 1 + length turns = omega (arith, e) in
    let here : n ≡ 0 + length turns = omega (arith, e) in
    let mounted = rw here at c.in_ok-image.ensures.ok in (
      turns ++ taken.turn ∷ [],
      length-append turns (taken.turn ∷ []) ∙ ap (λ m. m + 1) e,
      one_mounted g.L.ImageSource.gives (IsTurn g.R.Read.remaining) c.args.images.now 0 turns
          c.loop-number.images
          taken.turn c.in_ok-image.image c.open.new.images are mounted taken.is_turn,
      line_behind (c.args.lines + 1) _ _ _ turns taken.turn _ number lines
          (rw (sym taken.answers) at c.in_ok-write_line.ensures.ok),
      λ zero. absurd (omega (arith, zero)),
      λ held was kept.
          let (now, has, (still, follows, lasts)) = f held was kept in
          let (next, has_next, (then, one, last)) = taken.follows now has still in (
            next,
            has_next,
            (
              then,
              follows_then c.args.back c.args.spares _ _ turns _ _ (taken.turn ∷ []) _ _ follows
                  one,
              last_then g.S.PartSink
                  c.args.session.now c.open.new.session c.read_image.new.session held now next
                  lasts last,
            ),
          ),
      calm_then g.S.PartSink c.args.session.now c.open.new.session c.read_image.new.session
          (calm_then g.S.PartSink c.args.session.now c.loop-number.session c.open.new.session calm
          (calm_walked g.S.PartSink c.loop-number.session c.open.new.session
          c.in_ok-image.ensures.same c.in_ok-image.ensures.calm))
          c.in_ok-outcome.ensures.calm,
    )
