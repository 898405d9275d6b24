use Rattle.std.proofs.Common.{rules, ◌≡◌, [], Some, None, refl, sym, ◌∙◌, inl, inr}
use Rattle.tape_set.specs.Position.{want_at}
use Rattle.tape_run.proofs.{Ended.told_err, Extracted.none_finished, Fitting.no_text}
use Rattle.tape_run.proofs.extract.end_file.Goals as goal

pub returns-in_err-end_report-clause-err : goal.returns-in_err-end_report-clause-err
returns-in_err-end_report-clause-err g c =
    let wants = sym c.in-Some.is ∙ c.want.ensures in
    told_err _ _ _ c.from_residual.ensures.1 (record {
      want = Some c.in-Some.want;
      records = 0;
      line = c.in_err-end_report.ensures.err;
      told = λ other. absurd (other c.in_err-end_report.ensures.fault);
      wants = inr wants;
      tells = λ held was. inr (wants, λ none. absurd (cc none));
      is_written = λ held was. inl (refl, inr (λ none. absurd (cc none)));
    })

pub returns-in_err-records-clause-err : goal.returns-in_err-records-clause-err
returns-in_err-records-clause-err g c =
    let none : None ≡ want_at c.args.session.now.core.file c.args.session.now.core.position =
    search rules in
    told_err _ _ _ c.from_residual-in_err-records.ensures.1 (record {
      want = None;
      records = 0;
      line = no_text _ _;
      told = λ other. refl;
      wants = inl (no_text _ []);
      tells = λ held was. inl (no_text _ []);
      is_written = λ held was. inr (
        none_finished _ _ none,
        inl (c.in_err-records.ensures.err held was, no_text _ []),
      );
    })

pub returns-in_err-end_report-2-clause-err : goal.returns-in_err-end_report-2-clause-err
returns-in_err-end_report-2-clause-err g c =
    let none : None ≡ want_at c.args.session.now.core.file c.args.session.now.core.position =
    search rules in
    told_err _ _ _ c.from_residual-in_err-end_report-2.ensures.1 (record {
      want = None;
      records = c.in_ok-records.records;
      line = c.in_err-end_report-2.ensures.err;
      told = λ other. absurd (other c.in_err-end_report-2.ensures.fault);
      wants = inr none;
      tells = λ held was. inr (none, λ same. (c.in_ok-records.ensures.ok held was).0);
      is_written = λ held was. inr (
        none_finished _ _ none,
        inr (c.in_ok-records.ensures.ok held was).1,
      );
    })
