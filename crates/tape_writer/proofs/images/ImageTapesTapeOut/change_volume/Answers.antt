use Rattle.tape_writer.proofs.{Words.sym, Words.subst, Written.begun_at}
use Rattle.tape_writer.specs.{Tapes.Ended, Tapes.all_volumes, Images.AreImages}
use Rattle.tape_writer.proofs.images.ImageTapesTapeOut.change_volume.Goals as goal

pub returns-clause-ok : goal.returns-clause-ok
returns-clause-ok g c = λ tapes held. begun_at (g.S.ImageStore.holds c.self-2.inside.store)
    (g.S.ImageStore.holds c.next.new.self) _ _ _ (all_volumes tapes) c.new.ensures
    (λ images h. c.in-Some.ensures.lent images h) (subst (λ z. AreImages
    (g.S.ImageStore.holds z.store) z.image (Ended (all_volumes tapes))) (sym c.self-2.view_is)
    (c.in_ok-end_image.ensures.ok tapes held))
