use Rattle.std.proofs.Common.{rules, ◌≡◌, subst}
use Rattle.std.specs.Io.KnownBytes.{Appends}
use Rattle.tape_run.specs.ReelLine.{last_line}
use Rattle.tape_run.proofs.Fitting.{whole_front}
use Rattle.tape_image.proofs.Pieces.{on_err}
use Rattle.tape_run.proofs.extract.end_report.Goals as goal

pub returns-in_err-flush-clause-err : goal.returns-in_err-flush-clause-err
returns-in_err-flush-clause-err g c =
    let text : c.as_bytes.result.now ≡ last_line c.args.want c.args.records = search rules in
    let line = subst (Appends (g.P.Write.contents c.args.report.now)
    (g.P.Write.contents c.write_text.new.writer)) text c.in_ok-write_text.ensures.ok in
    on_err _ _ (whole_front _ _ _ _ line c.flush.ensures.kept)
