use Rattle.std.proofs.Common.{◌≡◌, ◌++◌, ◌+◌, ◌∙◌, ◌∷◌, [], ap, sym, refl, take, append-nil}
use Rattle.std.proofs.lemmas.Grind.{flat_map-append, put_two}
use Rattle.tape_run.specs.SurveyLine.{damaged_text, damages_text}
use Rattle.tape_run.proofs.SalvageChoice.{taken_more}
use Rattle.tape_run.proofs.survey.damages.DamagesTextDisplay.fmt.Goals as goal

pub loop-line-preserved : goal.loop-line-preserved
loop-line-preserved g c = λ plain.
    let before = c.loop-line.invariant plain in
    let between = c.args.self.now.0.now in
    let lines = c.args.self.now.1.now in
    let place = c.loop-line.line-index in
    let line = c.line-item.result in
    let one_more : damages_text between (take place lines) ++ damaged_text between line
    ≡ damages_text between (take (place + 1) lines) = ap
    (λ t. damages_text between (take place lines) ++ t)
    (sym (append-nil (damaged_text between line))) ∙ sym (flat_map-append (damaged_text between)
    (take place lines) (line ∷ [])) ∙ ap (damages_text between)
    (sym (taken_more _ _ _ _ c.loop-line-test.true c.line-item.is)) in
    put_two _ _ _ _ _ _ _ before (c.in_ok-write.ensures.writes before.plain refl) one_more
