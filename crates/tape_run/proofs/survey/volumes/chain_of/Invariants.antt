use Rattle.std.proofs.Common.{◌≡◌, ◌++◌, ◌+◌, ◌-◌}
use Rattle.tape_run.specs.SurveyChain.{files_chain}
use Rattle.tape_run.proofs.survey.volumes.chain_of.Given as goal

abbrev pub invariant-loop-before : goal.invariant-loop-before
invariant-loop-before l =
    l.chain.items ++ files_chain l.findings l.set_id (l.before + 1) (l.greatest - l.before)
    ≡ files_chain l.findings l.set_id 1 l.greatest
