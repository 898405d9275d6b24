use Rattle.std.proofs.Common.{◌≡◌, [], false, true, refl, sym, ap, subst, ◌∙◌}
use Rattle.tape_core.specs.State.{State}
use Rattle.tape_stage.specs.{OnlyReading.OnlyReads, Staged.Staged, Stages.OpensOver}
use Rattle.tape_tool.specs.Staging.{IsOfFile}
use Rattle.tape_tool.specs.declared.staging.StagingFault.TheVariants.{OtherFile, Stage}
use Rattle.tape_stage.specs.declared.stage.Stage.{Stage as StageOf}
use Rattle.tape_stage.proofs.Refusals.{opened_keeps}
use Rattle.tape_tool.proofs.{Sessions.stands_at, Unmade.asked_then}
use Rattle.tape_tool.proofs.Unmade.{read_opens, read_then}
use Rattle.tape_tool.proofs.staging.open_session.Goals as goal

-- ---- a stage is opened

pub returns-in-Ok-open_disk-clause-goes_on : goal.returns-in-Ok-open_disk-clause-goes_on
returns-in-Ok-open_disk-clause-goes_on g c honest other =
    let reads = asked_then g.D.Disk c.args.disk c.len.new.self c.is_unmade.new.disk
    c.len.ensures.same c.len.ensures.same_length c.len.ensures.crash c.len.ensures.time
    c.len.ensures.honest c.is_unmade.ensures.reads in
    let h = c.is_unmade.ensures.honest (c.len.ensures.honest.onward honest) in
    let read = c.in-Ok-open_disk.ensures.resumes h in
    record {
      generation = read.0;
      point = c.in-Ok-open_disk.point;
      parts = read.1;
      staged = rw (← reads.same honest) read.2;
      of_file = c.if-same_file.ensures.0 refl;
      stands = stands_at c.in-Ok-open_disk.point c.in-Ok-open_disk.point read.1 c.resume.result
          c.in-Ok-open_disk.stage c.resume.ensures.sink (c.resume.ensures.resumed read.1) refl
          read.3 read.4 (c.in-Ok-open_disk.ensures.survives h)
          (c.in-Ok-open_disk.ensures.ok h).3.alive
          (g.met.D.Disk.only_now c.in-Ok-open_disk.stage.disk);
    }

pub returns-in-Ok-open_disk-clause-file : goal.returns-in-Ok-open_disk-clause-file
returns-in-Ok-open_disk-clause-file g c =
    let place = (c.resume.ensures.resumed []).place in
    let of_file : IsOfFile c.args.set_id c.args.file c.in-Ok-open_disk.point =
    c.if-same_file.ensures.0 refl in
    (ap (λ (s : State). s.set_id) place ∙ of_file.0, ap (λ (s : State). s.file) place ∙ of_file.1)

pub returns-in-Ok-open_disk-clause-any_moment : goal.returns-in-Ok-open_disk-clause-any_moment
returns-in-Ok-open_disk-clause-any_moment g c honest other =
    let reads = asked_then g.D.Disk c.args.disk c.len.new.self c.is_unmade.new.disk
    c.len.ensures.same c.len.ensures.same_length c.len.ensures.crash c.len.ensures.time
    c.len.ensures.honest c.is_unmade.ensures.reads in
    let h = c.is_unmade.ensures.honest (c.len.ensures.honest.onward honest) in
    subst (λ (s : StageOf g.row.D.Denot g.D.Disk). OpensOver g.D.Disk c.args.disk s.disk)
    (sym c.resume.ensures.sink) (read_opens g.D.Disk c.args.disk c.is_unmade.new.disk reads honest
    c.in-Ok-open_disk.stage.disk (c.in-Ok-open_disk.ensures.any_moment h))

-- ---- it belongs to another file, or is none

never : false ≡ true → ⊥
never e = cc

pub returns-in-Ok-2-clause-refused : goal.returns-in-Ok-2-clause-refused
returns-in-Ok-2-clause-refused g c honest other =
    let reads = asked_then g.D.Disk c.args.disk c.len.new.self c.is_unmade.new.disk
    c.len.ensures.same c.len.ensures.same_length c.len.ensures.crash c.len.ensures.time
    c.len.ensures.honest c.is_unmade.ensures.reads in
    let h = c.is_unmade.ensures.honest (c.len.ensures.honest.onward honest) in
    let read = c.in-Ok-open_disk.ensures.resumes h in
    read_then g.D.Disk c.args.disk c.is_unmade.new.disk reads honest c.args.set_id c.args.file
    OtherFile c.into_disk.result (record {
      says = (
        read.0,
        c.in-Ok-open_disk.point,
        read.1,
        read.2,
        λ own. never (c.if-same_file.ensures.1 own),
      );
      any_moment = subst (λ (d : g.row.D.Denot). OpensOver g.D.Disk c.is_unmade.new.disk d)
          (sym c.into_disk.ensures) (c.in-Ok-open_disk.ensures.any_moment h);
      foreign = λ none. absurd (none read.0 c.in-Ok-open_disk.point read.1 read.2);
      kept = opened_keeps read.0 c.in-Ok-open_disk.point read.1 (g.D.Disk.seen c.is_unmade.new.disk)
          (g.D.Disk.seen c.into_disk.result) read.2
          (ap (λ (d : g.row.D.Denot). g.D.Disk.seen d) c.into_disk.ensures
          ∙ c.in-Ok-open_disk.ensures.cut h);
    })

pub returns-in-Err-open_disk-clause-refused : goal.returns-in-Err-open_disk-clause-refused
returns-in-Err-open_disk-clause-refused g c honest other =
    let reads = asked_then g.D.Disk c.args.disk c.len.new.self c.is_unmade.new.disk
    c.len.ensures.same c.len.ensures.same_length c.len.ensures.crash c.len.ensures.time
    c.len.ensures.honest c.is_unmade.ensures.reads in
    let h = c.is_unmade.ensures.honest (c.len.ensures.honest.onward honest) in
    let refuses = c.in-Err-open_disk.ensures.refused in
    read_then g.D.Disk c.args.disk c.is_unmade.new.disk reads honest c.args.set_id c.args.file
    (Stage c.in-Err-open_disk.refused.fault) c.in-Err-open_disk.refused.disk (record {
      says = (refuses.none h, refuses.says h);
      any_moment = refuses.any_moment h;
      foreign = refuses.foreign h;
      kept = refuses.kept h;
    })
