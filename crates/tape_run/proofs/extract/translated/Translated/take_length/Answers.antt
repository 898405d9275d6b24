use Rattle.std.proofs.Common.{subst, sym, take, Some, zero}
use Rattle.tape_run.specs.Translating.{IsTaken}
use Rattle.tape_run.proofs.Translations.{length_taken}
use Rattle.tape_run.proofs.extract.translated.Translated.take_length.Goals as goal

pub returns-clause-taken : goal.returns-clause-taken
returns-clause-taken g c =
    let found = c.in-Some.ensures.some in (
      found.0,
      subst (IsTaken (Some c.args.form) zero (take 4 c.args.buf.now) _ _)
          (sym c.in_ok-end.ensures.left) (length_taken c.args.form c.args.buf.now _ _ _ _ found.0 found.1
          c.in-Ok.ensures.ok c.in_ok-end.ensures.text),
    )
