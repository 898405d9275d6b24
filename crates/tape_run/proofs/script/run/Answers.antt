use Rattle.std.proofs.Common.{◌≡◌, ◌+◌, [], ◌++◌, length, map, drop, sym, ap, subst, ◌∙◌}
use Rattle.std.proofs.{Common.length-append, Common.arith, lemmas.List.drop_more}
use Rattle.tape_run.specs.{Given.written, Seen.seen, Headline.IsRead}
use Rattle.tape_run.proofs.RunSoFar.{one_more, adds_more, came_to_end, all_unread, now_unread}
use Rattle.tape_run.proofs.{Headline.ran_so, Begin.kept_new, Begin.is_read, Causes.calm_then}
use Rattle.tape_run.proofs.{Back.came_back, Back.whole_records, Ended.stopped_so}
use Rattle.tape_run.proofs.Made.{stops_here, lost_here, wrote, next_is}
use Rattle.tape_run.proofs.RunSoFar.{adds_so_far, taken_then, stays_behind}
use Rattle.tape_run.proofs.script.run.Goals as goal

pub loop-step-preserved : goal.loop-step-preserved
loop-step-preserved g c =
    let (which, count, row, come, calm, stays, taken, behind) = c.loop-step.invariant in
    let (more, unread, writes, first, makes) = c.in-Ok.ensures.ok in
    let steps = c.args.steps.now in
    let here = drop_more steps c.loop-step.step _ c.loop-step-test.true in (
      which ++ more,
      length-append which more ∙ ap (λ n. n + length more) count ∙ sym writes.1,
      wrote which more c.args.failed.now c.loop-step.failed c.make.new.failed c.loop-step.used
          _ count row writes,
      λ held was kept.
          let mid = come held was kept in
          let (now, has, (still, made)) = makes mid.now mid.has mid.kept in
          now_unread _ first (one_more steps c.loop-step.step mid here now has still made
          (c.make.ensures.crash mid.now mid.has mid.kept)),
      calm_then g.S.PartSink c.args.session.now c.loop-step.session c.make.new.session calm
          c.in-Ok.ensures.calm,
      c.make.ensures.wide ∙ stays,
      c.in-Ok.ensures.takes ∙ taken_then steps c.loop-step.step _ here c.loop-step.used taken,
      subst (λ n. drop n c.make.new.reels ≡ drop n c.args.reels.now) (sym c.in-Ok.ensures.takes)
          (stays_behind c.loop-step.used _ _ _ _ behind c.in-Ok.ensures.behind),
    )

pub returns-in-Err-clause-untaken : goal.returns-in-Err-clause-untaken
returns-in-Err-clause-untaken g c =
    let (which, count, row, come, calm, stays, taken, behind) = c.loop-step.invariant in
    let steps = c.args.steps.now in
    let here = drop_more steps c.loop-step.step _ c.loop-step-test.true in
    subst (λ n. drop n c.make.new.reels ≡ drop n c.args.reels.now)
    (taken_then steps c.loop-step.step _ here c.loop-step.used taken)
    (stays_behind c.loop-step.used _ _ _ _ behind c.in-Err.ensures.behind)

pub returns-clause-runs : goal.returns-clause-runs
returns-clause-runs g c = λ held was kept.
    let (which, count, row, come, calm, stays, taken, behind) = c.loop-step.invariant in
    let end = come held was kept in
    let (runs, last) = came_to_end c.args.steps.now _ _ _ _ end
    (omega (arith, c.loop-step-test.false)) in
    (end.now, end.has, ((which, row, runs), last))

pub returns-clause-headline : goal.returns-clause-headline
returns-clause-headline g c = λ held was kept.
    let (which, count, row, come, calm, stays, taken, behind) = c.loop-step.invariant in
    let end = come held was kept in
    let (runs, last) = came_to_end c.args.steps.now _ _ _ _ end
    (omega (arith, c.loop-step-test.false)) in (
      end.now,
      end.has,
      (
        end.kept,
        λ bytes e.
            let (run, same) = ran_so which _ _ _ _ _ runs bytes e in
            (run, row ∙ ap (λ w. written w c.args.failed.now) (sym same)),
      ),
    )

pub returns-clause-start : goal.returns-clause-start
returns-clause-start g c = λ set_id file was st.
    let (now, has, (k, run)) =
    returns-clause-headline g c [] was (kept_new set_id file _ st) in (
      now,
      has,
      λ bytes e.
          let (ran, row) = run bytes e in
          let (read, same) = is_read set_id file _ bytes _ _ _ st ran ran.same_wide in
          (read, row ∙ ap (λ w. written w c.args.failed.now) (sym same)),
    )

pub returns-clause-back : goal.returns-clause-back
returns-clause-back g c = λ set file f bytes was st l has_file volumes readers reels none.
    let (now, has, reads) = returns-clause-start g c set.set_id file was st in
    let end = seen g.S.PartSink c.loop-step.session now in
    let left = map g.R.Read.remaining c.loop-step.reels in
    let r = subst (λ z. IsRead set.set_id file z bytes left end) reels (reads bytes readers).0 in
    let (done, parts) = came_back set file f bytes _ _ l has_file volumes none r in (
      subst (g.S.PartSink.holds c.loop-step.session.sink) parts has,
      done,
      whole_records set file f l has_file,
    )

pub returns-clause-crash : goal.returns-clause-crash
returns-clause-crash g c = λ held was kept. adds_so_far _ _ _
    (c.loop-step.invariant.3 held was kept)

pub returns-in-Err-clause-faults : goal.returns-in-Err-clause-faults
returns-in-Err-clause-faults g c = λ held was kept.
    let here = drop_more c.args.steps.now _ _ c.loop-step-test.true in
    let (which, count, row, come, calm, stays, taken, behind) = c.loop-step.invariant in
    let mid = come held was kept in
    let rem = g.R.Read.remaining in
    let used = c.loop-step.used in
    let others = map rem (drop used c.make.new.reels) in
    let left = ap (λ l. l ++ others) (sym c.in-Err.ensures.unread) ∙ all_unread _ _ _ in
    let (now, has, (still, fails)) = c.in-Err.ensures.err mid.now mid.has mid.kept in (
      now,
      (λ keeps. has (λ lost. keeps (lost_here c.args.steps.now _ _ _ _ here lost))),
      (
        still,
        which,
        c.in-Err.ensures.unwritten ∙ row,
        stops_here _ which _ _ _ _ _ _ _ _ _ _ _ _ _ left here mid.made fails,
      ),
    )

pub returns-in-Err-clause-stopped : goal.returns-in-Err-clause-stopped
returns-in-Err-clause-stopped g c = λ held was kept.
    let (now, has, (k, which, row, runs)) = returns-in-Err-clause-faults g c held was kept in (
      now,
      has,
      (
        k,
        λ bytes e.
            let (end, same) = stopped_so which _ _ _ _ _ _ _ runs bytes e in
            (end, row ∙ ap (λ w. written w c.args.failed.now) (sym same)),
      ),
    )

pub returns-in-Err-clause-crash : goal.returns-in-Err-clause-crash
returns-in-Err-clause-crash g c = λ held was kept.
    let mid = c.loop-step.invariant.3 held was kept in
    let rem = g.R.Read.remaining in
    let others = map rem (drop c.loop-step.used c.make.new.reels) in
    adds_more mid (c.make.ensures.crash mid.now mid.has mid.kept) _ _ (ap (λ l. l ++ others)
    (sym c.in-Err.ensures.unread) ∙ all_unread _ _ _)

pub returns-in-Err-clause-cause : goal.returns-in-Err-clause-cause
returns-in-Err-clause-cause g c =
    let (which, count, row, come, calm, stays, taken, behind) = c.loop-step.invariant in
    let steps = c.args.steps.now in
    record {
      step = _;
      at = next_is steps _ _ _ (drop_more steps _ _ c.loop-step-test.true);
      mid = c.loop-step.session;
      calm = calm;
      refuses = c.in-Err.ensures.cause;
    }
