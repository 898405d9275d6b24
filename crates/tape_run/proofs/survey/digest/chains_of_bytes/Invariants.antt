use Rattle.std.proofs.Common.{◌≡◌, length}
use Rattle.tape_run.specs.SurveyDigest.{in_turn, side_over}
use Rattle.tape_run.proofs.survey.digest.chains_of_bytes.Given as goal

abbrev pub invariant-bytes : goal.invariant-bytes
invariant-bytes l = side_over (in_turn l.all) l.left ≡ side_over (in_turn l.fn.chains) l.bytes

abbrev pub decreases-bytes : goal.decreases-bytes
decreases-bytes l = length l.left
