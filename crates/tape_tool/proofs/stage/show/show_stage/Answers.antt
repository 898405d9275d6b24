use Rattle.std.proofs.Common.{◌≡◌, ℕ, false, refl, sym, ap, subst, ◌∙◌, Option, Some}
use Rattle.std.specs.Io.KnownBytes.{Appends}
use Rattle.std.proofs.KnownBytes.{Keeps-refl}
use Rattle.tape_core.specs.Weight.{Rose}
use Rattle.tape_stage.specs.{OnlyReading.OnlyReads, Salvaged.Remains, declared.disk.Disk.Ghosts}
use Rattle.tape_stage.specs.declared.stage.StageFault.TheVariants.{BadFrame, Failed, Full}
use Rattle.tape_image.specs.Written.{AppendsFront}
use Rattle.tape_stage.proofs.Remaining.{broken_bad, broken_none, none_staged, whole_staged}
use Rattle.tape_stage.proofs.{Passing.reads_then, Results.no_frame_any, Results.no_frame_says}
use Rattle.tape_tool.specs.StageReport.{in_lines, in_part, in_records, told_with, unopened}
use Rattle.tape_tool.proofs.stage.show.show_stage.Goals as goal

-- ---- no stage was opened

pub returns-in-Err-clause-err : goal.returns-in-Err-clause-err
returns-in-Err-clause-err g c honest =
    let refuses = c.in-Err.ensures.refused in
    let fault = c.in-Err.refused.fault in
    let read = g.D.Disk.seen c.args.disk in
    unopened fault refl (λ says. none_staged read (refuses.none honest says))
    (no_frame_says read fault (refuses.none honest) refuses.no_frame)
    (no_frame_any fault (λ place. c.args.damaged ≡ false) refuses.no_frame)
    refuses.not_full refuses.not_failed
    (Keeps-refl _) (Keeps-refl _)

-- ---- a damaged stage is refused

pub returns-in-Err-ending_at-clause-err : goal.returns-in-Err-ending_at-clause-err
returns-in-Err-ending_at-clause-err g c honest =
    let opened = c.in-Ok.opened in
    let found = c.in-Ok.ensures.remains honest in
    let read = g.D.Disk.seen c.args.disk in
    let e = c.in-Err-ending_at.ensures.err in
    let place = e.0 in
    let remains : Remains read found.0 opened.point (Some place) found.1 =
    subst (λ (b : Option ℕ). Remains read found.0 opened.point b found.1) e.1 found.2 in
    unopened (BadFrame place) e.3
    (λ says. broken_none read found.0 opened.point place found.1 remains)
    (broken_bad read found.0 opened.point place found.1 remains) e.2
    (λ e. let no : BadFrame place ≡ Full = e in cc)
    (λ e. let no : BadFrame place ≡ Failed = e in cc) (Keeps-refl _) (Keeps-refl _)

-- ---- the records could not be written

pub returns-in-Err-write_in-clause-err : goal.returns-in-Err-write_in-clause-err
returns-in-Err-write_in-clause-err g c honest =
    let opened = c.in-Ok.opened in
    let found = c.in-Ok.ensures.remains honest in
    let ends = c.in-Ok-ending_at.ensures.ok in
    in_part found.0 opened.point opened.broken found.1 found.2 ends.1
    (in_records (c.in-Err-write_in.ensures.err found.1 found.3 found.4) (Keeps-refl _)
    c.in-Err-write_in.ensures.fault)

-- ---- the lines could not be printed

pub returns-in-Err-write_text-clause-err : goal.returns-in-Err-write_text-clause-err
returns-in-Err-write_text-clause-err g c honest =
    let opened = c.in-Ok.opened in
    let found = c.in-Ok.ensures.remains honest in
    let ends = c.in-Ok-ending_at.ensures.ok in
    in_part found.0 opened.point opened.broken found.1 found.2 ends.1
    (in_lines (c.in_default.ensures.ok found.1 found.3 found.4)
    (subst (AppendsFront (g.P.Write.contents c.args.report.now)
    (g.P.Write.contents c.write_text.new.writer)) (c.deref.ensures.0 ∙ c.lines_of.ensures
    ∙ ap (λ e. told_with opened.point e opened.records) ends.0
    ∙ ap (told_with opened.point _) found.4) c.in-Err-write_text.ensures.err) refl)

-- ---- everything succeeded

pub returns-in-Ok-write_text-clause-ok : goal.returns-in-Ok-write_text-clause-ok
returns-in-Ok-write_text-clause-ok g c honest =
    let opened = c.in-Ok.opened in
    let found = c.in-Ok.ensures.remains honest in
    let ends = c.in-Ok-ending_at.ensures.ok in
    record {
      generation = found.0;
      point = opened.point;
      broken = opened.broken;
      parts = found.1;
      remains = found.2;
      whole = λ no. (ends.1 no, whole_staged _ found.0 _ _ found.1 (ends.1 no) found.2);
      ends = ends.0;
      wrote = c.in_default.ensures.ok found.1 found.3 found.4;
      told = subst (Appends (g.P.Write.contents c.args.report.now)
          (g.P.Write.contents c.write_text.new.writer)) (c.deref.ensures.0 ∙ c.lines_of.ensures
          ∙ ap (told_with opened.point c.in-Ok-ending_at.ending) found.4)
          c.in-Ok-write_text.ensures.ok;
    }

-- ---- the disk is only read, and failed if Device is returned

-- the disk that is returned was read twice
read_twice : {D : Type 0} (g : Ghosts D) (a b c d : D) → (g.is_honest a → g.is_honest b)
    → OnlyReads g a b → OnlyReads g b c → d ≡ c → OnlyReads g a d
read_twice g a b c d honest first second same =
    subst (OnlyReads g a) (sym same) (reads_then g a b c honest first second)

pub returns-in-Err-ending_at-clause-reads : goal.returns-in-Err-ending_at-clause-reads
returns-in-Err-ending_at-clause-reads g c =
    subst (OnlyReads g.D.Disk c.args.disk) (sym c.into_disk.ensures) c.in-Ok.ensures.reads

pub returns-in-Err-write_in-clause-reads : goal.returns-in-Err-write_in-clause-reads
returns-in-Err-write_in-clause-reads g c =
    let e = c.in-Ok.ensures in
    read_twice g.D.Disk _ _ _ _ (λ h. (e.remains h).3.honest
    (c.in-Ok.opened.stage.settled e.sealed.1)) e.reads c.write_in.ensures.reads
    c.into_disk-in-Err-write_in.ensures

pub returns-in-Err-write_in-clause-cause : goal.returns-in-Err-write_in-clause-cause
returns-in-Err-write_in-clause-cause g c honest told =
    let e = c.in-Ok.ensures in
    let found = e.remains honest in
    subst (λ (d : g.row.D.Denot). Rose (g.D.Disk.faults c.args.disk) (g.D.Disk.faults d))
    (sym c.into_disk-in-Err-write_in.ensures)
    (subst (λ n. Rose n (g.D.Disk.faults c.write_in.new.stage.disk)) e.calm.1
    (c.in-Err-write_in.ensures.cause (cc told) e.sealed.1 found.1 found.3 found.4))

pub returns-in-Err-write_text-clause-reads : goal.returns-in-Err-write_text-clause-reads
returns-in-Err-write_text-clause-reads g c =
    let e = c.in-Ok.ensures in
    read_twice g.D.Disk _ _ _ _ (λ h. (e.remains h).3.honest
    (c.in-Ok.opened.stage.settled e.sealed.1)) e.reads c.write_in.ensures.reads
    c.into_disk-in-Err-write_text.ensures

pub returns-in-Ok-write_text-clause-reads : goal.returns-in-Ok-write_text-clause-reads
returns-in-Ok-write_text-clause-reads g c =
    let e = c.in-Ok.ensures in
    read_twice g.D.Disk _ _ _ _ (λ h. (e.remains h).3.honest
    (c.in-Ok.opened.stage.settled e.sealed.1)) e.reads c.write_in.ensures.reads
    c.into_disk-in-Ok-write_text.ensures
