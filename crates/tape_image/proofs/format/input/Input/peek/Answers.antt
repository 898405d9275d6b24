use Rattle.std.proofs.Common.{ap, ◌∙◌, take, min, length}
use Rattle.tape_image.specs.Format.{step_of}
use Rattle.tape_image.proofs.Formats.{seen_is}
use Rattle.tape_image.proofs.format.input.Input.peek.Goals as goal

pub returns-clause-seen : goal.returns-clause-seen
returns-clause-seen g c =
    seen_is _ c.args.format c.args.before c.args.begun c.fill.new.self c.next_step.result
    c.min.result
    c.in_ok-fill.field-0 c.in_ok-fill.ensures.all c.in_ok-fill.ensures.end
    (c.min.ensures ∙ ap (λ l. min (length l) 8) c.bytes-held.ensures)
    (c.next_step.ensures.is
    ∙ ap (λ l. step_of c.args.format c.args.before c.args.begun
    (take c.min.result l)) c.bytes-held.ensures)
