use Rattle.tape_writer.proofs.Words.{rules, refl, inr, mark, writing}
use Rattle.tape_writer.proofs.Written.{mark_at, put_kept}
use Rattle.tape_image.specs.Written.{written}
use Rattle.tape_writer.proofs.images.ImageTapesTapeOut.mark.Goals as goal

pub returns-in-Ok-clause-ok : goal.returns-in-Ok-clause-ok
returns-in-Ok-clause-ok g c =
    rw (← c.self.view_is) (λ volumes items held.
    mark_at (g.S.ImageStore.holds c.self.inside.store) _ _ _ _ (search rules) refl volumes items
    c.in-Ok.ensures held)

pub returns-in-Err-clause-err : goal.returns-in-Err-clause-err
returns-in-Err-clause-err g c =
    rw (← c.self.view_is) (λ tapes held. rw c.fail-in-Err.ensures.store
    (put_kept (g.S.ImageStore.holds c.self.inside.store) c.self.inside.image _ c.in-Some.image
    c.mark.new.self (search rules) c.fail-in-Err.ensures.image (written mark) writing _ tapes
    (inr (mark, refl)) c.in-Err.ensures held))
