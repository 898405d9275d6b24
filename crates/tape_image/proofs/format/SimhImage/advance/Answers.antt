use Rattle.std.proofs.Common.{ap, ◌∙◌, not, length, ◌==◌}
use Rattle.tape_image.proofs.Formats.{looked_keeps, at_chunk}
use Rattle.tape_image.proofs.format.SimhImage.advance.Goals as goal

pub returns : goal.returns
returns g c =
    let now = c.args.self.now in
    rw c.follow.ensures (looked_keeps _ _ now.format (at_chunk now.before now.kept.items) now.out
    now.course c.in_ok-step.step _
    (ap not (c.is_empty-begun.ensures ∙ ap (λ l. length l == 0) c.as_slice.ensures.value))
    c.requires.out c.requires.on c.in_ok-step.ensures.keeps c.in_ok-step.ensures.seen)
