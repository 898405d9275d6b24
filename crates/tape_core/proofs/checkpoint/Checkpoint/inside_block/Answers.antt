use Rattle.std.proofs.Common.{◌≡◌, rules}
use Rattle.tape_core.specs.Stands.{inside_block}
use Rattle.tape_core.proofs.PartPoints.{point_stands}
use Rattle.tape_core.proofs.checkpoint.Checkpoint.inside_block.Goals as goal

pub returns-clause-stands : goal.returns-clause-stands
returns-clause-stands c =
    let value : c.of.result
    ≡ inside_block c.args.self.now c.args.p c.args.part c.args.begun c.args.staged =
    search rules in
    λ set old new item n is p_is. point_stands c.args.self.now c.of.result c.args.p
    c.args.part c.args.begun c.args.staged value set old new item n is p_is
