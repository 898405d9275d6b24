use Rattle.std.proofs.Common.{◌≡◌, map, length}
use Rattle.std.specs.Int.{w64, from_le_bytes}
use Rattle.tape_run.specs.SurveyDigest.{in_turn, side_over}
use Rattle.tape_run.proofs.survey.digest.chains_of_words.Given as goal

abbrev pub invariant-words : goal.invariant-words
invariant-words l = side_over (in_turn l.all) (map (from_le_bytes w64) l.left)
    ≡ side_over (in_turn l.fn.chains) (map (from_le_bytes w64) l.words)

abbrev pub decreases-words : goal.decreases-words
decreases-words l = length l.left
