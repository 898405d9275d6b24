use Rattle.std.proofs.Common.{rules, ◌≡◌, [], Some, None, refl, sym, ◌∙◌, inl, inr, false}
use Rattle.tape_set.specs.Position.{want_at}
use Rattle.tape_run.proofs.{Ended.told_err, Extracted.none_finished}
use Rattle.tape_run.proofs.{Fitting.no_text, StoppedThere.session_walked}
use Rattle.tape_run.proofs.Extracted.{extracted, stops_reading, stops_at_end, leaves_more}
use Rattle.tape_run.proofs.extract.now.extract_watched.Goals as goal

pub returns-in_err-read_rounds-clause-err : goal.returns-in_err-read_rounds-clause-err
returns-in_err-read_rounds-clause-err g c =
    told_err _ _ _ c.from_residual.ensures.1 (stops_reading _ g.L.ImageSource.size _ _
    c.args.session.now c.read_rounds.new.session _ _ _ _ _ false false false _ refl
    c.in_err-read_rounds.ensures.err (λ less now few. inl (refl, inl few)))

pub returns-in_err-read_rounds-clause-cause : goal.returns-in_err-read_rounds-clause-cause
returns-in_err-read_rounds-clause-cause g c =
    told_err _ _ _ c.from_residual.ensures.1 (inl c.in_err-read_rounds.ensures.cause)

pub returns-in_err-end_report-clause-err : goal.returns-in_err-end_report-clause-err
returns-in_err-end_report-clause-err g c =
    let wants = sym c.in-Some.is ∙ c.want.ensures in
    told_err _ _ _ c.from_residual-in_err-end_report.ensures.1 (stops_at_end _
    g.L.ImageSource.size _ _ c.args.session.now c.read_rounds.new.session c.read_rounds.new.session
    _ _ _ _ _ _ false false false _ refl c.in_ok-read_rounds.ensures.ok
    (session_walked _ c.read_rounds.new.session) (record {
      want = Some c.in-Some.want;
      records = 0;
      line = c.in_err-end_report.ensures.err;
      told = λ other. absurd (other c.in_err-end_report.ensures.fault);
      wants = inr wants;
      tells = λ held was. inr (wants, λ none. absurd (cc none));
      is_written = λ held was. inl (refl, inr (λ none. absurd (cc none)));
    }) (λ less more want now f. leaves_more less more want _ _ _ _ f))

pub returns-in-Some-clause-ok : goal.returns-in-Some-clause-ok
returns-in-Some-clause-ok g c =
    extracted _ g.L.ImageSource.size _ _ c.args.session.now c.read_rounds.new.session
    c.read_rounds.new.session _ _ _ _ _ _ (Some c.in-Some.want) false false false refl
    c.in_ok-read_rounds.ensures.ok (record {
      wanted = sym c.in-Some.is ∙ c.want.ensures;
      records = 0;
      line = c.in_ok-end_report.ensures.ok;
      is_written = λ held was. tt;
    }) (session_walked _ c.read_rounds.new.session) refl

pub returns-in_err-records-clause-err : goal.returns-in_err-records-clause-err
returns-in_err-records-clause-err g c =
    let mid = c.read_rounds.new.session in
    let none : None ≡ want_at mid.core.file mid.core.position = search rules in
    told_err _ _ _ c.from_residual-in_err-records.ensures.1 (stops_at_end _ g.L.ImageSource.size _ _
    c.args.session.now mid c.place_output.new.self _ _ _ _ _ _ false false false _ refl
    c.in_ok-read_rounds.ensures.ok c.place_output.ensures.same (record {
      want = None;
      records = 0;
      line = no_text _ _;
      told = λ other. refl;
      wants = inl (no_text _ []);
      tells = λ held was. inl (no_text _ []);
      is_written = λ held was. inr (
        none_finished mid.core.file mid.core.position none,
        inl (c.in_err-records.ensures.err, no_text _ []),
      );
    }) (λ less more want now f. leaves_more less more want _ _ _ _ f))

pub returns-in_err-end_report-2-clause-err : goal.returns-in_err-end_report-2-clause-err
returns-in_err-end_report-2-clause-err g c =
    let mid = c.read_rounds.new.session in
    let none : None ≡ want_at mid.core.file mid.core.position = search rules in
    told_err _ _ _ c.from_residual-in_err-end_report-2.ensures.1 (stops_at_end _
    g.L.ImageSource.size _ _ c.args.session.now mid c.place_output.new.self _ _ _ _ _ _ false false
    false _ refl c.in_ok-read_rounds.ensures.ok c.place_output.ensures.same (record {
      want = None;
      records = c.in_ok-records.records;
      line = c.in_err-end_report-2.ensures.err;
      told = λ other. absurd (other c.in_err-end_report-2.ensures.fault);
      wants = inr none;
      tells = λ held was. inr (none, λ same. (c.in_ok-records.ensures.ok held was).0);
      is_written = λ held was. inr (
        none_finished mid.core.file mid.core.position none,
        inr (c.in_ok-records.ensures.ok held was).1,
      );
    }) (λ less more want now f. leaves_more less more want _ _ _ _ f))

pub returns-clause-ok : goal.returns-clause-ok
returns-clause-ok g c =
    let mid = c.read_rounds.new.session in
    extracted _ g.L.ImageSource.size _ _ c.args.session.now mid c.place_output.new.self _ _ _ _ _ _
    None false false false refl c.in_ok-read_rounds.ensures.ok (record {
      wanted = search rules;
      records = c.in_ok-records.records;
      line = c.in_ok-end_report-2.ensures.ok;
      is_written = c.in_ok-records.ensures.ok;
    }) c.place_output.ensures.same c.place_output.ensures.calm
