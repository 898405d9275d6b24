use Rattle.std.proofs.Common.{◌≡◌, ◌-◌, ◌≤◌}
use Rattle.tape_run.specs.SurveyGaps.{gap_first}
use Rattle.tape_run.proofs.survey.gaps.gap_first.Given as goal

abbrev pub invariant-back : goal.invariant-back
invariant-back l = (gap_first l.findings l.set_id (l.file - 1)
    ≡ gap_first l.findings l.set_id (l.first - 1)) × (1 ≤ l.first) × (l.first ≤ l.file)

abbrev pub decreases-back : goal.decreases-back
decreases-back l = l.first
