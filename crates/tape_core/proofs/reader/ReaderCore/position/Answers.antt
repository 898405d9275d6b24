-- The position is the one that the reading reaches.
use Rattle.std.proofs.Common.{ap, ◌∙◌}
use Rattle.tape_core.proofs.Steps.{position_reads}
use Rattle.tape_core.proofs.reader.ReaderCore.position.Goals as goal

pub returns-clause-far : goal.returns-clause-far
returns-clause-far c = λ set p k good l v r. ap (λ z. z.position) c.self.view_is
    ∙ position_reads c.args.self.now set p k good l v r
