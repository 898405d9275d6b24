use Rattle.std.proofs.{Common.rules, KnownBytes.Keeps-refl}
use Rattle.tape_image.proofs.Pieces.{on_err}
use Rattle.tape_run.proofs.WithoutOffsets.{ok, fault, front, none_front}
use Rattle.tape_run.proofs.list.list_to.Goals as goal

pub returns-in_err-buffer-clause-front : goal.returns-in_err-buffer-clause-front
returns-in_err-buffer-clause-front g c =
    on_err c.from_residual.result _ (none_front _ _ _ (Keeps-refl _))

pub returns-clause-ok : goal.returns-clause-ok
returns-clause-ok g c = ok c.list_items-listed.result _ _ _ _ (search rules)

pub returns-clause-fault : goal.returns-clause-fault
returns-clause-fault g c = fault c.list_items-listed.result _ _ _ _ (search rules)

pub returns-clause-front : goal.returns-clause-front
returns-clause-front g c =
    front c.list_items-listed.result _ c.list_items-listed.new.image.left _ _ (search rules)
