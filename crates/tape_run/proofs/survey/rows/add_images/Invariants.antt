use Rattle.std.proofs.Common.{◌≡◌, ◌++◌, drop, map}
use Rattle.tape_run.specs.SurveyRows.{image_rows}
use Rattle.tape_run.proofs.survey.rows.add_images.Given as goal

abbrev pub invariant-loop-number : goal.invariant-loop-number
invariant-loop-number l =
    l.rows.items ++ image_rows l.copies l.number (drop l.number (map (λ n. n.now) l.names))
    (drop l.number l.sights)
    ≡ l.fn.rows.items ++ image_rows l.copies 0 (map (λ n. n.now) l.names) l.sights
