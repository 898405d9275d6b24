use Rattle.std.proofs.Common.{arith, map, ◌∙◌}
use Rattle.tape_image.proofs.Pieces.{on_err}
use Rattle.tape_run.specs.MergeLines.{line_about}
use Rattle.tape_run.proofs.MergeReports.{reports_more, reports_part}
use Rattle.tape_run.proofs.merge.now.report_readings.Goals as goal

pub loop-number-preserved : goal.loop-number-preserved
loop-number-preserved g c =
    reports_more (line_about c.args.differ (map (λ n. n.now) c.args.names.now)) _ _
    c.index-readings-number.result _ _ _ _ (omega arith) c.index-readings-number.is
    (c.as_slice.ensures.value ∙ c.in_ok-line.ensures) c.loop-number.invariant
    c.in_ok-pass_on.ensures.ok

pub returns-in_err-pass_on-clause-front : goal.returns-in_err-pass_on-clause-front
returns-in_err-pass_on-clause-front g c =
    on_err c.from_residual-in_err-pass_on.result _ (reports_part
    (line_about c.args.differ (map (λ n. n.now) c.args.names.now)) _ _
    c.index-readings-number.result _ _ _ _
    (omega arith) c.index-readings-number.is (c.as_slice.ensures.value ∙ c.in_ok-line.ensures)
    c.loop-number.invariant c.in_err-pass_on.ensures.err)
