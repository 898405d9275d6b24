use Rattle.std.proofs.Common.{refl}
use Rattle.tape_run.proofs.Made.{set_writes}
use Rattle.tape_run.proofs.script.write_at.Goals as goal

pub returns-then-number-row : goal.returns-then-number-row
returns-then-number-row c = (set_writes _ _ _ c.if-number-row.true, refl)
