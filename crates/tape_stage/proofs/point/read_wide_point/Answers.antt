use Rattle.std.proofs.Common.{true, ◌∙◌}
use Rattle.tape_stage.proofs.PointLaws.{found_of, wide_only, strict_is_wide}
use Rattle.tape_stage.proofs.point.read_wide_point.Goals as goal

pub returns-clause-found : goal.returns-clause-found
returns-clause-found c = found_of true _ c.args.text.now c.point_at.ensures

pub returns-clause-only : goal.returns-clause-only
returns-clause-only c = λ version point is. c.point_at.ensures ∙ wide_only _ _ _ is

pub returns-clause-agrees : goal.returns-clause-agrees
returns-clause-agrees c = λ point e. c.point_at.ensures ∙ strict_is_wide _ c.args.text.now e
