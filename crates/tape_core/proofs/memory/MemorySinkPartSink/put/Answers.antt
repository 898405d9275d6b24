use Rattle.tape_blocks.specs.Parts.{view}
use Rattle.tape_core.specs.Memory.{portions}
use Rattle.tape_core.proofs.Weights.{weight_of-one_more}
use Rattle.tape_core.proofs.memory.MemorySinkPartSink.put.Goals as goal

pub returns-in-Ok-clause-weight : goal.returns-in-Ok-clause-weight
returns-in-Ok-clause-weight c =
    weight_of-one_more (portions c.args.self.now) (portions c.add.new.self)
    (view c.args.part) c.in-Ok.ensures.ok
