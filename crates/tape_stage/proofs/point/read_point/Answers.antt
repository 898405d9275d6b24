use Rattle.std.proofs.Common.{false, ◌∙◌}
use Rattle.tape_stage.proofs.PointLaws.{found_of, standard_of, reads_only}
use Rattle.tape_stage.proofs.point.read_point.Goals as goal

pub returns-clause-found : goal.returns-clause-found
returns-clause-found c = found_of false _ c.args.text.now c.point_at.ensures

pub returns-clause-standard : goal.returns-clause-standard
returns-clause-standard c = standard_of _ c.args.text.now c.point_at.ensures

pub returns-clause-only : goal.returns-clause-only
returns-clause-only c = λ version point is standard.
    c.point_at.ensures ∙ reads_only _ _ _ is standard
