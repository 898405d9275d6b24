use Rattle.std.proofs.Common.{◌≡◌, ◌+◌, List, [], ◌∷◌, ◌++◌, take, drop, min, length, refl, sym, ap}
use Rattle.std.proofs.Common.{subst, ◌∙◌, arith}
use Rattle.tape_blocks.specs.{Block.Portion, Spans.join}
use Rattle.tape_stage.specs.Parts.{NoFrameAt}
use Rattle.tape_stage.proofs.stage.frames.walk.Goals.{After-min-limit, then-not-leaves}
use Rattle.tape_stage.proofs.Passing.{follow, stands, weaken}
use Rattle.tape_stage.proofs.Remaining.{counted_ends, counted_goes_on, walked_more, framed_broken}
use Rattle.tape_stage.proofs.{stage.frames.walk.Given.Over, stage.frames.walk.Goals.else-not-leaves}
use Rattle.tape_stage.proofs.stage.frames.walk.Goals as goal

-- the limit of the walk, in terms of the bytes
limit_at : (g : Over) (c : After-min-limit g) (h : g.D.Disk.is_honest c.args.disk.now)
    → c.min-limit.result ≡ min (256 + c.args.staged) (length (g.D.Disk.seen c.args.disk.now))
limit_at g c h = c.min-limit.ensures ∙ ap (min (256 + c.args.staged))
    (c.in_ok-len.ensures.value ∙ g.met.D.Disk.long_as_seen c.args.disk.now h)

pub loop-place-init : goal.loop-place-init
loop-place-init g c = record {
  low = omega arith;
  high = omega (arith, c.min-limit.ensures, c.requires.long, c.in_ok-len.ensures.value);
  few = omega arith;
  long = c.len.ensures.same_length;
  faults = c.in_ok-len.ensures.calm;
  honest = c.len.ensures.honest;
  seen = c.len.ensures.same;
  moments = λ h. stands g.D.Disk _ _ _ (c.len.ensures.time h) (c.len.ensures.crash h);
  walked = λ h. (record { low = omega arith; parts = []; frames_are = refl; short = tt }, refl);
}

pub loop-place-preserved : goal.loop-place-preserved
loop-place-preserved g c =
    let i = c.loop-place.invariant in
    let reads = c.frame_at.ensures.reads in
    record {
      low = omega (arith, i.low);
      high = omega (arith, rw c.in-Some.is at c.in_ok-span.ensures.ends);
      few = elim c.if-not-leaves.branch [
        | then-not-leaves w ↦ omega (arith, i.few, w.records-is)
        | else-not-leaves w ↦ omega (arith, i.few, w.records-is)
      ];
      long = reads.same_length ∙ i.long;
      faults = c.in_ok-span.ensures.calm ∙ i.faults;
      honest = record {
        onward = λ h. c.frame_at.ensures.honest (i.honest.onward h);
        back = λ h. i.honest.back (reads.back h);
      };
      seen = λ h. reads.same (i.honest.onward h) ∙ i.seen h;
      moments = λ h. follow g.D.Disk _ _ _ _ (i.moments h)
          (weaken g.D.Disk _ _ _ _ (i.moments h).now (reads.any_moment (i.honest.onward h)));
      walked = λ h.
          let place = c.loop-place.place in
          let size = c.in-Some.size in
          let bytes = g.D.Disk.seen c.args.disk.now in
          let limit = limit_at g (goal.at.loop-place-preserved g c).After-min-limit h in
          let w = i.walked h in
          let part : Portion = record {
            span = c.in-Some.span;
            bytes = take size (drop (place + 5) bytes);
          } in
          let more = walked_more place size c.in-Some.span bytes
          (omega (arith, limit, rw c.in-Some.is at c.in_ok-span.ensures.ends))
          (rw (i.seen h) at (rw c.in-Some.is at (c.in_ok-span.ensures.header
          (i.honest.onward h)))) (rw c.in-Some.is at c.in_ok-span.ensures.short) w.0 in
          let count : c.if-not-leaves.records ≡ length (join (w.0.parts ++ part ∷ [])).records =
          elim c.if-not-leaves.branch [
            | then-not-leaves b ↦ b.records-is
                ∙ counted_ends w.0.parts part _ (sym c.leaves.ensures ∙ b.if-not-leaves.true) w.1
            | else-not-leaves b ↦ b.records-is ∙ counted_goes_on w.0.parts part _
                (sym c.leaves.ensures ∙ b.if-not-leaves.false) w.1
          ] in
          (more.0, count ∙ ap (λ (ps : List Portion). length (join ps).records) (sym more.1));
    }

pub returns-in_default-clause-framed : goal.returns-in_default-clause-framed
returns-in_default-clause-framed g c h =
    let i = c.loop-place.invariant in
    framed_broken c.args.staged c.loop-place.place _ _ _ (limit_at g
    (goal.at.returns-in_default-clause-framed g c).After-min-limit h) i.high (omega arith)
    (i.walked h).0 (i.walked h).1 (subst (NoFrameAt c.loop-place.place c.min-limit.result)
    (i.seen h) (c.in_ok-span.ensures.none (i.honest.onward h) c.in_default.is))
