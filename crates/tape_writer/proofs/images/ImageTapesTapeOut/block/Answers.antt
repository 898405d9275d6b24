use Rattle.tape_writer.proofs.{Words.rules, Words.refl, Written.block_at, Written.block_kept}
use Rattle.tape_writer.proofs.images.ImageTapesTapeOut.block.Goals as goal

pub returns-in-Ok-clause-ok : goal.returns-in-Ok-clause-ok
returns-in-Ok-clause-ok g c =
    rw (← c.self.view_is) (λ volumes items held.
    block_at (g.S.ImageStore.holds c.self.inside.store) c.self.inside.image _ c.in-Some.image
    c.block.new.self (search rules) refl _ volumes items c.in-Ok.ensures held)

pub returns-in-Err-clause-err : goal.returns-in-Err-clause-err
returns-in-Err-clause-err g c =
    rw (← c.self.view_is) (λ tapes held. rw c.fail-in-Err.ensures.store
    (block_kept (g.S.ImageStore.holds c.self.inside.store) c.self.inside.image _ c.in-Some.image
    c.block.new.self (search rules) c.fail-in-Err.ensures.image _ _ tapes c.in-Err.ensures held))
