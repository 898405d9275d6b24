use Rattle.tape_run.proofs.CopyTurns.{none_is_suspect}
use Rattle.tape_run.proofs.copy_laws.no_copies_are_suspect.Goals as goal

pub returns : goal.returns
returns c set back spares core last old new turns lawful at same copies follows =
    none_is_suspect set lawful back spares core last old new turns at same copies follows
