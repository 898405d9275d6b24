use Rattle.std.proofs.Common.{◌≡◌, take, flat_map}
use Rattle.tape_run.specs.SurveyCopies.{disputed_by}
use Rattle.tape_run.proofs.survey.copies.Copies.disputed.Given as goal

abbrev pub invariant-loop-held : goal.invariant-loop-held
invariant-loop-held l = l.copies.items
    ≡ flat_map (disputed_by l.self.notes) (take l.held-index l.self.held)
