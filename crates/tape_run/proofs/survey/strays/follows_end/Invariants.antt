use Rattle.std.proofs.Common.{◌≡◌, ◌-◌}
use Rattle.tape_run.specs.SurveySets.{ends_among}
use Rattle.tape_run.proofs.survey.strays.follows_end.Given as goal

abbrev pub invariant-loop-sect : goal.invariant-loop-sect
invariant-loop-sect l =
    ends_among l.sections.entries l.set_id l.file l.sect (l.key.sect - l.sect)
    ≡ ends_among l.sections.entries l.set_id l.file 0 l.key.sect
