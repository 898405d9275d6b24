use Rattle.std.proofs.Common.{ℕ, List, Bor, ◌++◌, ◌∙◌, sym, ap, append-nil, arith}
use Rattle.tape_run.proofs.SurveyCompared.{no_name}
use Rattle.tape_run.proofs.survey.rows.add_name.Goals as goal

pub returns-then-image-names : goal.returns-then-image-names
returns-then-image-names c =
    sym (append-nil c.args.row.now.items)
    ∙ ap (λ t. c.args.row.now.items ++ t) (sym (no_name (λ (n : Bor (List ℕ)). n.now)
    c.args.names.now c.args.image (omega (arith, c.if-image-names.true))))
