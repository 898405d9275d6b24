use Rattle.std.proofs.Common.{◌≡◌, map, inl, inr, rules, refl, sym, [], ◌++◌}
use Rattle.std.proofs.{Common.append-nil, KnownBytes.Appends-trans}
use Rattle.std.specs.Io.KnownBytes.{Appends}
use Rattle.tape_image.specs.Written.{AppendsFront}
use Rattle.tape_image.specs.declared.item.ImageWriteFault.TheVariants.{TooLong}
use Rattle.tape_run.specs.MergeLines.{lines_from, reading_line, merged_line, differ_line}
use Rattle.tape_run.specs.MergeNow.{Misses}
use Rattle.tape_run.proofs.MergeNow.{made, comes_whole, some_end, err_write, all_logged, err_stays}
use Rattle.tape_run.proofs.{Ended.told_err, Reporting.front_then}
use Rattle.tape_run.proofs.MergeNow.{says_front, says_first, says_lines, says_differ, says_items}
use Rattle.tape_run.proofs.MergeTooLong.{item_cause, end_cause}
use Rattle.tape_run.proofs.merge.now.merge_readings.Goals as goal

pub returns-in-Ok-merge_to-clause-ok : goal.returns-in-Ok-merge_to-clause-ok
returns-in-Ok-merge_to-clause-ok g c =
    let names = map (λ n. n.now) c.args.names.now in
    let old = g.P.Write.contents c.args.report.now in
    let mid = g.P.Write.contents c.report_readings.new.report in
    let new = g.P.Write.contents c.pass_line.new.writer in
    comes_whole c.args.readings.now names _ _ _ _ _ c.end_of-end.result _ _
    c.whole_or_partial.ensures (
    made c.args.readings.now c.merge_to.new.readings c.in-Ok-merge_to.merged _ _
    (g.G.Write.contents c.write_text.new.writer) (g.G.Write.contents c.merge_to.new.log) _ _ _
    c.end_of-end.result _ names (Appends (g.G.Write.contents c.args.log.now)
    (g.G.Write.contents c.flush.new.writer)) (Appends old new)
    c.new-image.ensures c.in-Ok-merge_to.ensures.ok
    c.in_ok-written-in-Ok-merge_to.ensures.ok c.in_ok-place-in-Ok-merge_to.ensures.ok
    c.whole_or_partial.ensures c.end_of-end.ensures
    (all_logged _ _ _ _ _ _ _ c.as_slice.ensures.value c.in_ok-head.ensures
    c.in-Ok.ensures.ok c.flush.ensures.kept) (Appends-trans old mid new
    (lines_from (reading_line names) 0 c.merge_to.new.readings)
    (merged_line c.in-Ok-merge_to.merged c.end_of-end.result)
    c.in_ok-report_readings-in-Ok-merge_to.ensures.ok
    c.in_ok-pass_line-in-Ok-merge_to.ensures.ok))

pub returns-in-Err-Write-clause-cause : goal.returns-in-Err-Write-clause-cause
returns-in-Err-Write-clause-cause g c =
    let misses : Misses (λ _. ⊥) (λ n. (c.in-Err-Write.fault ≡ TooLong) × (n ≡ c.size.result))
    c.write_stop.result = search rules in
    item_cause c.args.readings.now c.merge_to.new.readings _ _ _ c.in-Err-Write.field-0
    c.in-Err-Write.fault c.size.result c.write_stop.result c.new-image.ensures
    c.in-Err-Write.field-0-is c.size.ensures c.in-Err-Write.ensures.fault misses

pub returns-in_err-written-in-Ok-merge_to-clause-cause :
    goal.returns-in_err-written-in-Ok-merge_to-clause-cause
returns-in_err-written-in-Ok-merge_to-clause-cause g c =
    end_cause c.from_residual-in_err-written-in-Ok-merge_to.result c.args.readings.now
    c.merge_to.new.readings c.in-Ok-merge_to.merged _ c.merge_to.new.out
    (g.G.Write.contents c.write_text.new.writer) (g.G.Write.contents c.merge_to.new.log) _
    c.end_of-end.result c.new-image.ensures c.in-Ok-merge_to.ensures.ok c.end_of-end.ensures
    (told_err c.from_residual-in_err-written-in-Ok-merge_to.result _ _
    c.from_residual-in_err-written-in-Ok-merge_to.ensures.1
    c.in_err-written-in-Ok-merge_to.ensures.err)

pub returns-in_err-report_readings-in-Ok-merge_to-clause-left :
    goal.returns-in_err-report_readings-in-Ok-merge_to-clause-left
returns-in_err-report_readings-in-Ok-merge_to-clause-left g c =
    err_stays c.from_residual-in_err-report_readings-in-Ok-merge_to.result g.O.Place.stands _ _ _
    (says_front c.args.readings.now c.merge_to.new.readings c.in-Ok-merge_to.merged _ _ _ _ _ _ _ _
    c.in-Ok-merge_to.ensures.ok c.in-Ok-merge_to.ensures.all
    c.in_err-report_readings-in-Ok-merge_to.ensures.front)

pub returns-in_err-written-in-Ok-merge_to-clause-left :
    goal.returns-in_err-written-in-Ok-merge_to-clause-left
returns-in_err-written-in-Ok-merge_to-clause-left g c =
    err_stays c.from_residual-in_err-written-in-Ok-merge_to.result g.O.Place.stands _ _ _
    (says_lines c.args.readings.now c.merge_to.new.readings c.in-Ok-merge_to.merged _ _ _ _ _ _ _ _
    c.in-Ok-merge_to.ensures.ok c.in-Ok-merge_to.ensures.all
    c.in_ok-report_readings-in-Ok-merge_to.ensures.ok)

pub returns-in_default-flush-clause-left : goal.returns-in_default-flush-clause-left
returns-in_default-flush-clause-left g c = (
  refl,
  says_lines c.args.readings.now c.merge_to.new.readings c.in-Ok-merge_to.merged _ _ _ _ _ _ _ _
      c.in-Ok-merge_to.ensures.ok c.in-Ok-merge_to.ensures.all
      c.in_ok-report_readings-in-Ok-merge_to.ensures.ok,
)

pub returns-in_err-place-in-Ok-merge_to-clause-left :
    goal.returns-in_err-place-in-Ok-merge_to-clause-left
returns-in_err-place-in-Ok-merge_to-clause-left g c =
    err_write _ g.O.Place.stands _ _ _ _ (search rules) (inl (
      c.in_err-place-in-Ok-merge_to.ensures.err,
      says_lines c.args.readings.now c.merge_to.new.readings c.in-Ok-merge_to.merged _ _ _ _ _ _ _ _
          c.in-Ok-merge_to.ensures.ok c.in-Ok-merge_to.ensures.all
          c.in_ok-report_readings-in-Ok-merge_to.ensures.ok,
    ))

pub returns-in_err-report_readings-in-Err-Differ-clause-left :
    goal.returns-in_err-report_readings-in-Err-Differ-clause-left
returns-in_err-report_readings-in-Err-Differ-clause-left g c =
    err_stays c.from_residual-in_err-report_readings-in-Err-Differ.result g.O.Place.stands _ _ _
    (says_first c.args.readings.now c.merge_to.new.readings _ _ c.in-Err-Differ.item
    c.in-Err-Differ.field-0 _ _ c.in-Err-Differ.ensures.fault c.in-Err-Differ.field-0-is
    c.in-Err-Differ.ensures.still_all _ _
    c.in_err-report_readings-in-Err-Differ.ensures.front)

pub returns-in_err-pass_line-in-Err-Differ-clause-left :
    goal.returns-in_err-pass_line-in-Err-Differ-clause-left
returns-in_err-pass_line-in-Err-Differ-clause-left g c =
    let wrote : AppendsFront (g.P.Write.contents c.report_readings-in-Err-Differ.new.report)
    (g.P.Write.contents c.pass_line-in-Err-Differ.new.writer) (differ_line c.in-Err-Differ.item)
    = search rules in
    err_stays c.from_residual-in_err-pass_line-in-Err-Differ.result g.O.Place.stands _ _ _
    (says_differ c.args.readings.now c.merge_to.new.readings _ _ c.in-Err-Differ.item
    c.in-Err-Differ.field-0 _ _ c.in-Err-Differ.ensures.fault c.in-Err-Differ.field-0-is
    c.in-Err-Differ.ensures.still_all _ _ _
    c.in_ok-report_readings-in-Err-Differ.ensures.ok wrote)

pub returns-in_err-report_readings-in-Err-Differ-2-clause-left :
    goal.returns-in_err-report_readings-in-Err-Differ-2-clause-left
returns-in_err-report_readings-in-Err-Differ-2-clause-left g c =
    let names = map (λ n. n.now) c.args.names.now in
    let old = g.P.Write.contents c.args.report.now in
    let first = g.P.Write.contents c.report_readings-in-Err-Differ.new.report in
    let second = g.P.Write.contents c.pass_line-in-Err-Differ.new.writer in
    let wrote : Appends first second (differ_line c.in-Err-Differ.item) = search rules in
    err_stays c.from_residual-in_err-report_readings-in-Err-Differ-2.result g.O.Place.stands _ _ _
    (says_items c.args.readings.now c.merge_to.new.readings _ _ c.in-Err-Differ.item
    c.in-Err-Differ.field-0 _ _ c.in-Err-Differ.ensures.fault c.in-Err-Differ.field-0-is
    c.in-Err-Differ.ensures.still_all old second
    _
    (Appends-trans old first second (lines_from (reading_line names) 0 c.merge_to.new.readings)
    (differ_line c.in-Err-Differ.item) c.in_ok-report_readings-in-Err-Differ.ensures.ok wrote)
    c.in_err-report_readings-in-Err-Differ-2.ensures.front)

pub returns-in_err-pass_line-in-Ok-merge_to-clause-left :
    goal.returns-in_err-pass_line-in-Ok-merge_to-clause-left
returns-in_err-pass_line-in-Ok-merge_to-clause-left g c =
    let names = map (λ n. n.now) c.args.names.now in
    let old = g.P.Write.contents c.args.report.now in
    let mid = g.P.Write.contents c.report_readings.new.report in
    let new = g.P.Write.contents c.pass_line.new.writer in
    let lines = lines_from (reading_line names) 0 c.merge_to.new.readings in
    let last = merged_line c.in-Ok-merge_to.merged c.end_of-end.result in
    let wrote : AppendsFront old new (lines ++ last) = front_then old mid new lines last []
    (lines ++ last) c.in_ok-report_readings-in-Ok-merge_to.ensures.ok
    c.in_err-pass_line-in-Ok-merge_to.ensures.err (sym (append-nil (lines ++ last))) in
    let (end, fits) = some_end c.in-Ok-merge_to.merged.bad c.in-Ok-merge_to.merged.miscounted
    c.end_of-end.result in
    err_write _ g.O.Place.stands _ _ _ _ (search rules) (inr (
      (
        c.merge_to.new.readings,
        c.in-Ok-merge_to.ensures.all,
        c.in-Ok-merge_to.merged,
        c.end_of-end.result,
        wrote,
      ),
      (
        end,
        made c.args.readings.now c.merge_to.new.readings c.in-Ok-merge_to.merged _ _
            (g.G.Write.contents c.write_text.new.writer) (g.G.Write.contents c.merge_to.new.log) _ _
            _ c.end_of-end.result end names (Appends (g.G.Write.contents c.args.log.now)
            (g.G.Write.contents c.flush.new.writer)) (AppendsFront old new)
            c.new-image.ensures c.in-Ok-merge_to.ensures.ok
            c.in_ok-written-in-Ok-merge_to.ensures.ok c.in_ok-place-in-Ok-merge_to.ensures.ok fits
            c.end_of-end.ensures (all_logged _ _ _ _ _ _ _ c.as_slice.ensures.value
            c.in_ok-head.ensures c.in-Ok.ensures.ok c.flush.ensures.kept) wrote,
      ),
    ))
