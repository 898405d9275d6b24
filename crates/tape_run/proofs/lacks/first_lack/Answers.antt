use Rattle.std.proofs.Common.{◌≡◌, ◌∙◌, arith, Some, false, rules}
use Rattle.tape_run.specs.Lacks.{entry_at, key_at, good_end}
use Rattle.tape_run.proofs.Lacking.{lacks_behind}
use Rattle.tape_run.proofs.lacks.first_lack.Goals as goal

pub sections-preserved : goal.sections-preserved
sections-preserved c =
    let e : good_end (entry_at c.args.sections.now.entries
    (key_at c.args.set_id c.args.file c.sections.sect)) ≡ Some false = search rules in
    record {
      most = omega (arith, c.sections.invariant.most, c.sections-test.true);
      goes_on =
          c.sections.invariant.goes_on ∙ lacks_behind c.args.sections.now.entries c.args.set_id
          c.args.file c.sections.sect c.sections.left (omega (arith, c.sections-test.true)) e;
    }
