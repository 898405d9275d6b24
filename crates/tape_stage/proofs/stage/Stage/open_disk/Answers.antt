use Rattle.std.proofs.Common.{◌≡◌, List, Err, refl, false, ap, arith, Some}
use Rattle.tape_blocks.specs.Block.{Portion}
use Rattle.tape_stage.specs.declared.stage.StageFault.TheVariants.{BadFrame, Device, Failed, Full}
use Rattle.tape_stage.specs.{Salvaged.Remains, Stages.OpensOver, Staged.Holding}
use Rattle.tape_stage.specs.{Stages.IsStaged, Staged.Ready}
use Rattle.tape_stage.proofs.Remaining.{broken_none, found_remains, none_staged}
use Rattle.tape_stage.proofs.{Backs.ready_survives, Backs.ready_returns, Remaining.whole_framed}
use Rattle.tape_stage.proofs.Openings.{IsOpened, cut_opened, cut_passes, cut_stopped, read_refuses}
use Rattle.tape_stage.proofs.stage.Stage.open_disk.Goals.{After-cut_kept, In-Ok-cut_kept}
use Rattle.tape_stage.proofs.{Finds.found_read, Held.stage_holds, Results.no_frame_says}
use Rattle.tape_stage.proofs.stage.Stage.open_disk.Given.{Over}
use Rattle.tape_stage.proofs.stage.Stage.open_disk.Goals as goal

pub returns-in-Err-clause-refused : goal.returns-in-Err-clause-refused
returns-in-Err-clause-refused g c =
    let l = c.in-Err.ensures in
    let old = g.D.Disk.seen c.args.disk in
    read_refuses _ _ _ c.look.ensures.reads c.in-Err.fault
    (λ h says. none_staged old (l.none h says))
    (λ h. no_frame_says old c.in-Err.fault (l.none h) l.no_frame) (λ e. l.ends.not_full (ap Err e))
    (λ e. l.ends.not_failed (ap Err e)) (λ e. l.ends.cause (ap Err e))

pub returns-in-Some-clause-refused : goal.returns-in-Some-clause-refused
returns-in-Some-clause-refused g c =
    let l = c.in-Ok.ensures in
    let found = c.in-Ok.looked.0 in
    let place = c.in-Some.place in
    let old = g.D.Disk.seen c.args.disk in
    let remains : (h : g.D.Disk.is_honest c.args.disk) → Remains old found.generation found.point
    (Some place) (l.framed h).0 =
    λ h. found_remains _ _ _ _ (l.found h) (rw c.in-Some.is at (l.framed h).1) in
    read_refuses _ _ _ c.look.ensures.reads (BadFrame place)
    (λ h says. broken_none _ _ _ place _ (remains h))
    (λ h. (found.generation, found.point, (l.framed h).0, remains h))
    (λ e. let no : BadFrame place ≡ Full = e in cc)
    (λ e. let no : BadFrame place ≡ Failed = e in cc)
    (λ e. absurd (let no : BadFrame place ≡ Device = e in cc))

whole : (g : Over) (c : After-cut_kept g) (h : g.D.Disk.is_honest c.args.disk)
    → Holding c.in-Ok.looked.0.point.staged (c.in-Ok.ensures.framed h).0 (g.D.Disk.seen c.args.disk)
whole g c h = whole_framed _ _ _ _ c.in_default.is (c.in-Ok.ensures.framed h).1

passes : (g : Over) (c : After-cut_kept g) → g.D.Disk.is_honest c.args.disk
    → OpensOver g.D.Disk c.args.disk c.cut_kept.new.disk
passes g c h =
    let l = c.in-Ok.ensures in
    cut_passes g.D.Disk _ _ _ c.look.ensures.reads h c.in-Ok.looked.0 (l.found h)
    (l.framed h).0 (whole g c h) (rw c.staged-weight.ensures.value at
    (c.cut_kept.ensures.any_moment (l.ends.honest h) (l.durable h)))

opened : (g : Over) (c : In-Ok-cut_kept g) (h : g.D.Disk.is_honest c.args.disk)
    → IsOpened g.D.Disk c.in-Ok.looked.0 c.args.disk c.cut_kept.new.disk
opened g c h =
    let l = c.in-Ok.ensures in
    let cut = c.in-Ok-cut_kept.ensures in
    cut_opened g.D.Disk _ _ _ c.look.ensures.reads h c.in-Ok.looked.0 (l.found h)
    (l.framed h).0 (whole_framed _ _ _ _ c.in_default.is (l.framed h).1)
    (rw c.staged-weight.ensures.value at (cut.cut (l.ends.honest h)))
    (cut.synced.durable (l.ends.honest h))

pub returns-in_default-cut_kept-clause-refused : goal.returns-in_default-cut_kept-clause-refused
returns-in_default-cut_kept-clause-refused g c =
    let l = c.in-Ok.ensures in
    let found = c.in-Ok.looked.0 in
    let at = (goal.at.returns-in_default-cut_kept-clause-refused g c).After-cut_kept in
    record {
      none = λ h says. absurd says;
      says = λ h. tt;
      not_full = λ e. let no : Device ≡ Full = e in cc;
      not_failed = λ e. let no : Device ≡ Failed = e in cc;
      cause = λ e. rw l.calm at c.in_default-cut_kept.ensures.synced.cause;
      any_moment = passes g at;
      kept = λ h. cut_stopped g.D.Disk _ _ _ c.look.ensures.reads h found (l.found h)
          (rw c.staged-weight.ensures.value at
          (c.in_default-cut_kept.ensures.partly (l.ends.honest h)));
      untouched = λ h calm. absurd calm;
      foreign = λ h none. absurd (none found.generation found.point (l.framed h).0
          (found_read _ _ _ (l.found h) (whole g at h)));
      same_length = λ calm. absurd calm;
    }

pub returns-clause-any_moment : goal.returns-clause-any_moment
returns-clause-any_moment g c = passes g (goal.at.returns-clause-any_moment g c).After-cut_kept

-- the parts are staged, and acknowledged
staged : (g : Over) (c : In-Ok-cut_kept g) (parts : List Portion) → Ready c.in-Ok.looked.0.in_second
    c.in-Ok.looked.0.generation c.in-Ok.looked.0.point parts c.in-Ok.looked.0.other_open
    (g.D.Disk.seen c.cut_kept.new.disk) (g.D.Disk.may_leave c.cut_kept.new.disk)
    → IsStaged g.D.Disk c.cut_kept.new.disk c.in-Ok.looked.0.in_second
    c.in-Ok.looked.0.generation c.in-Ok.looked.0.point c.in-Ok.looked.0.other_open
    c.staged-weight.result false parts parts
staged g c parts ready = record {
  alive = refl;
  ready = ready;
  holds = rw c.staged-weight.ensures.value ready.staged.parts_are;
  behind = omega (arith, c.staged-weight.ensures.value);
}

pub returns-clause-ok : goal.returns-clause-ok
returns-clause-ok g c h =
    let at = goal.at.returns-clause-ok g c in
    let is = opened g at.In-Ok-cut_kept h in
    (is.parts, is.read, refl, staged g at.In-Ok-cut_kept is.parts is.ready)

pub returns-clause-resumes : goal.returns-clause-resumes
returns-clause-resumes g c h =
    let at = goal.at.returns-clause-resumes g c in
    let is = opened g at.In-Ok-cut_kept h in (
      c.in-Ok.looked.0.generation,
      is.parts,
      is.read,
      stage_holds (c.in-Ok-cut_kept.ensures.synced.honest (c.in-Ok.ensures.ends.honest h))
          (staged g at.In-Ok-cut_kept is.parts is.ready),
      ready_returns _ _ _ _ _ _ _ is.ready,
    )

pub returns-clause-survives : goal.returns-clause-survives
returns-clause-survives g c h = ready_survives _ _ _ _ _ _ _
    (opened g (goal.at.returns-clause-survives g c).In-Ok-cut_kept h).ready
