use Rattle.tape_stage.specs.declared.point.Version.TheVariants.{Two}
use Rattle.tape_stage.proofs.laws.point_again.Goals as goal

pub returns : goal.returns
returns c = c.read_wide_point.ensures.only Two c.args.point.now c.write_point.ensures
