-- The result is the part needed next at the position that the reading reaches.
use Rattle.std.proofs.Common.{ap, ◌∙◌}
use Rattle.tape_core.proofs.Steps.{position_reads}
use Rattle.tape_set.specs.Position.{want_at}
use Rattle.tape_core.proofs.reader.ReaderCore.want.Goals as goal

pub returns-clause-far : goal.returns-clause-far
returns-clause-far c =
    λ set p k good l v r. c.want.ensures ∙ ap (λ z. want_at z.file z.position) c.self.view_is
    ∙ ap (λ z. want_at c.args.self.now.file z) (position_reads c.args.self.now set p k good l v r)
