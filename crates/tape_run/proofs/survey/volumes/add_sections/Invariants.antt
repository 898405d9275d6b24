use Rattle.std.proofs.Common.{◌≡◌, ◌++◌, ◌+◌, ◌-◌}
use Rattle.tape_run.specs.SurveyChain.{sections_chain}
use Rattle.tape_run.proofs.survey.volumes.add_sections.Given as goal

abbrev pub invariant-loop-before : goal.invariant-loop-before
invariant-loop-before l = l.chain.items
    ++ sections_chain l.sections.entries l.set_id l.file l.first (l.before + 1) (l.most - l.before)
    ≡ l.fn.chain.items ++ sections_chain l.sections.entries l.set_id l.file 1 1 l.most
