use Rattle.std.proofs.Common.{◌≡◌, Err, true, false, refl, ap}
use Rattle.tape_stage.specs.{Salvaged.standing, Staged.Holding}
use Rattle.tape_stage.proofs.{Held.holding_weighs, Remaining.found_remains}
use Rattle.tape_stage.proofs.stage.Stage.open_read_only.Goals.{in-None, in-Some}
use Rattle.tape_stage.proofs.stage.Stage.open_read_only.Goals as goal

pub returns-in-Err-clause-refused : goal.returns-in-Err-clause-refused
returns-in-Err-clause-refused g c =
    let l = c.in-Err.ensures in
    record {
      none = l.none;
      no_frame = l.no_frame;
      not_full = λ e. l.ends.not_full (ap Err e);
      not_failed = λ e. l.ends.not_failed (ap Err e);
      cause = λ e. l.ends.cause (ap Err e);
      reads = c.look.ensures.reads;
    }

pub returns-clause-remains : goal.returns-clause-remains
returns-clause-remains g c h =
    let l = c.in-Ok.ensures in
    let found = c.in-Ok.looked.0 in
    let walked = c.in-Ok.looked.1 in
    let framed = l.framed h in
    let new = g.D.Disk.seen c.look.new.disk in
    let weight : c.match-walked.weight ≡ standing found.point.staged walked.broken =
    elim c.match-walked.branch [
      | in-None w ↦ rw (w.weight-is, w.in-None.is) w.staged-weight.ensures.value
      | in-Some w ↦ rw (w.weight-is, w.in-Some.is) refl
    ] in
    let holds : Holding c.match-walked.weight framed.0 new =
    rw (weight, c.look.ensures.reads.same h) framed.1.holds in (
      found.generation,
      framed.0,
      found_remains _ _ _ _ (l.found h) framed.1,
      record {
        honest = λ none. l.ends.honest h;
        framed = holds;
        weighs = holding_weighs _ _ _ holds;
        ready = λ alive. absurd (let no : true ≡ false = alive in cc);
      },
      framed.2,
    )
