use Rattle.std.proofs.Common.{◌≡◌, ◌++◌, drop, None, false}
use Rattle.tape_run.specs.SurveyChain.{volumes_from}
use Rattle.tape_run.proofs.survey.volumes.items_of.Given as goal

abbrev pub invariant-loop-link : goal.invariant-loop-link
invariant-loop-link l = l.items.items
    ++ volumes_from l.last l.missing (drop l.link-index l.chain) ≡ volumes_from None false l.chain
