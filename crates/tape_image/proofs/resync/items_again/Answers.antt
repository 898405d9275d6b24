use Rattle.std.proofs.Common.{ap, ◌∙◌, take, min, length}
use Rattle.tape_image.specs.Resync.{place_again, window}
use Rattle.tape_image.proofs.Resyncs.{place_seen, place_kept}
use Rattle.tape_image.proofs.resync.items_again.Goals as goal

pub returns : goal.returns
returns g c =
    let held = c.fill_window.new.held.items in
    place_kept _ _ _ c.place_again.result c.new-held.ensures.items c.in_ok-fill_window.ensures.keeps
    (place_seen _ held c.place_again.result window c.min.result
    c.in_ok-fill_window.field-0 c.in_ok-fill_window.ensures.all c.in_ok-fill_window.ensures.end
    (c.min.ensures ∙ ap (λ l. min (length l) window) c.as_slice-front.ensures.value)
    (c.place_again.ensures
    ∙ ap (λ l. place_again (take c.min.result l)) c.as_slice-front.ensures.value))
