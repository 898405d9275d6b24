use Rattle.tape_stage.proofs.PointLaws.{text_of_one}
use Rattle.tape_stage.proofs.laws.texts_of_points.Goals as goal

pub returns-clause-of_one : goal.returns-clause-of_one
returns-clause-of_one c = text_of_one
