use Rattle.std.proofs.Common.{refl}
use Rattle.tape_image.proofs.Pieces.{on_err}
use Rattle.tape_run.specs.declared.passing.Phase.TheVariants.{Volume}
use Rattle.tape_run.proofs.NotedSoFar.{starts, in_part}
use Rattle.tape_run.proofs.catalogue.Catalogue.add.Goals as goal

pub returns-in_err-new-clause-err : goal.returns-in_err-new-clause-err
returns-in_err-new-clause-err g c =
    on_err _ _ (in_part _ _ 0 0 _ Volume _ _ (starts _ _ 0 _ refl refl) refl)
