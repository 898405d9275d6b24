use Rattle.std.proofs.Common.{ap, ◌∙◌, map}
use Rattle.std.specs.Int.{w64, from_le_bytes}
use Rattle.tape_run.specs.SurveyDigest.{in_turn, side_over, no_chains}
use Rattle.tape_run.proofs.SurveyDigest.{with_words}
use Rattle.tape_run.proofs.survey.digest.chains_of.Goals as goal

pub returns : goal.returns
returns c = with_words no_chains _ _ _ (c.chains_of_words-front.ensures ∙ ap
    (λ w. side_over no_chains (map (from_le_bytes w64) w)) c.as_chunks.ensures.front)
    (c.chains_of_bytes.ensures ∙ ap (side_over (in_turn c.chains_of_words-front.result))
    c.as_chunks.ensures.back)
