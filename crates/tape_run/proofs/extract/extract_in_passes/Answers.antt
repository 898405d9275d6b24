use Rattle.std.proofs.Common.{refl, inl}
use Rattle.std.proofs.lemmas.Result.{IfErr-weaker}
use Rattle.tape_run.proofs.{Opening.fails_by, Opening.any_walk, Ended.told_err}
use Rattle.tape_run.proofs.Reporting.{if_ok_both}
use Rattle.tape_run.proofs.Extracted.{extracted, stops_reading, stops_at_end, leaves_more}
use Rattle.tape_run.specs.Reeling.{goes_back}
use Rattle.tape_run.proofs.extract.extract_in_passes.Goals as goal

pub returns-in_err-read_rounds-clause-err : goal.returns-in_err-read_rounds-clause-err
returns-in_err-read_rounds-clause-err g c =
    told_err _ _ _ c.from_residual.ensures.1 (stops_reading g.S.PartSink g.L.ImageSource.size _ _
    c.args.session.now c.read_rounds.new.session _ _ _ _ _ c.has_note-back.result
    (goes_back c.args.session.now.notes) c.args.again _
    c.has_note-back.ensures c.in_err-read_rounds.ensures.err
    (λ less now few. inl (refl, inl few)))

pub returns-in_err-read_rounds-clause-cause : goal.returns-in_err-read_rounds-clause-cause
returns-in_err-read_rounds-clause-cause g c =
    told_err _ _ _ c.from_residual.ensures.1 (fails_by g.S.PartSink _ _
    (goes_back c.args.session.now.notes) c.has_note-back.result
    c.in_err-read_rounds.field-0.0 c.args.session.now c.read_rounds.new.session
    c.has_note-back.ensures (any_walk g.S.PartSink g.S.PartWalk.refuses g.M.Opener.refuses)
    c.in_err-read_rounds.ensures.cause)

pub returns-clause-ok : goal.returns-clause-ok
returns-clause-ok g c =
    if_ok_both c.end_file.result _ _ _ c.end_file.ensures.ok c.end_file.ensures.calm (λ want e calm.
    extracted g.S.PartSink g.L.ImageSource.size _ _ c.args.session.now c.read_rounds.new.session
    c.end_file.new.session _ _ _ _ _ _ want c.has_note-back.result
    (goes_back c.args.session.now.notes) c.args.again c.has_note-back.ensures
    c.in_ok-read_rounds.ensures.ok e c.end_file.ensures.same calm)

pub returns-clause-err : goal.returns-clause-err
returns-clause-err g c =
    IfErr-weaker c.end_file.result _ _ (λ fault e. stops_at_end g.S.PartSink g.L.ImageSource.size _
    _ c.args.session.now c.read_rounds.new.session c.end_file.new.session _ _ _ _ _ _
    c.has_note-back.result (goes_back c.args.session.now.notes) c.args.again fault
    c.has_note-back.ensures c.in_ok-read_rounds.ensures.ok c.end_file.ensures.same e
    (λ less more want now f. leaves_more less more want _ _ _ _ f))
    c.end_file.ensures.err
