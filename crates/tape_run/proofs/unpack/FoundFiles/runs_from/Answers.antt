use Rattle.std.proofs.Common.{◌≡◌, ◌∙◌, ◌++◌, ◌+◌, ◌-◌, ap, sym, arith, rules, append_assoc, Some}
use Rattle.std.proofs.Common.{true, false}
use Rattle.std.specs.Map.{lookup}
use Rattle.tape_run.specs.{Lacks.good_end, Lacks.entry_at, Lacks.key_at, Noted.same_key}
use Rattle.tape_run.specs.Origins.{runs_from}
use Rattle.tape_run.proofs.Origins.{runs_end, runs_go_on}
use Rattle.tape_run.proofs.unpack.FoundFiles.runs_from.Goals as goal

pub returns-then-eof : goal.returns-then-eof
returns-then-eof c =
    let found = c.args.self.now in
    let key = key_at c.args.set_id c.args.file c.sections.sect in
    let at : lookup (same_key key) found.locations.entries ≡ Some c.in-Some.number.now =
    search rules in
    let ends : good_end (entry_at found.sections.entries key) ≡ Some true = search rules in
    c.in_ok-push.ensures.items
    ∙ (ap (λ runs. c.sections.runs.items ++ runs) (sym (runs_end found.locations.entries
    found.sections.entries c.args.set_id c.args.file c.sections.sect c.sections.left _
    (omega (arith, c.sections-test.true)) at ends)) ∙ c.sections.invariant.goes_on)

pub sections-preserved : goal.sections-preserved
sections-preserved c =
    let found = c.args.self.now in
    let key = key_at c.args.set_id c.args.file c.sections.sect in
    let at : lookup (same_key key) found.locations.entries ≡ Some c.in-Some.number.now =
    search rules in
    let ends : good_end (entry_at found.sections.entries key) ≡ Some false = search rules in
    let rest = runs_from found.locations.entries found.sections.entries c.args.set_id c.args.file
    (c.sections.sect + 1) (c.sections.left - 1) in
    record {
      most = omega (arith, c.sections.invariant.most, c.sections-test.true);
      goes_on = ap (λ runs. runs ++ rest) c.in_ok-push-2.ensures.items
          ∙ (append_assoc c.sections.runs.items _ rest
          ∙ (ap (λ runs. c.sections.runs.items ++ runs) (sym (runs_go_on found.locations.entries
          found.sections.entries c.args.set_id c.args.file c.sections.sect c.sections.left _
          (omega (arith, c.sections-test.true)) at ends)) ∙ c.sections.invariant.goes_on));
    }
