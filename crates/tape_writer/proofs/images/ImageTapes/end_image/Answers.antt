use Rattle.tape_writer.proofs.Words.{rules, ◌∙◌, refl, inl}
use Rattle.byteorder.specs.Endian.{little_bytes}
use Rattle.tape_writer.proofs.Written.{end_at, put_kept}
use Rattle.tape_image.specs.{Word.end_word, Writer.finished}
use Rattle.tape_writer.proofs.images.ImageTapes.end_image.Goals as goal

pub returns-in-Ok-clause-ok : goal.returns-in-Ok-clause-ok
returns-in-Ok-clause-ok g c =
    rw (← c.self.view_is) (λ tapes held. end_at (g.S.ImageStore.holds c.self.inside.store)
    (g.S.ImageStore.holds c.keep.new.self) _ _ _ _ tapes (search rules) (search rules)
    c.in-Ok.ensures (λ images bytes h e. c.keep.ensures.kept images bytes h
    (c.into_device.ensures ∙ e)) held)

pub returns-in-Err-clause-err : goal.returns-in-Err-clause-err
returns-in-Err-clause-err g c =
    rw (← c.self.view_is) (λ tapes held. rw c.fail.ensures.store
    (put_kept (g.S.ImageStore.holds c.self.inside.store) c.self.inside.image _ c.in-Some.image
    c.finish.new.self (search rules) c.fail.ensures.image (little_bytes 4 end_word) finished _ tapes
    (inl refl) c.in-Err.ensures held))
