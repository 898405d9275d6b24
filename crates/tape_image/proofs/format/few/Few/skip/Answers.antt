use Rattle.std.proofs.Common.{rules, ap, ◌∙◌, ◌-◌, take, drop}
use Rattle.tape_image.proofs.Held.{skipped_front}
use Rattle.tape_image.proofs.format.few.Few.skip.Goals as goal

pub returns : goal.returns
returns c =
    let end = c.self.inside.end in
    let n = c.args.count in
    ap (take (end - n)) c.copy_within.ensures.after
    ∙ skipped_front c.self.inside.bytes n end (search rules) (search rules)
    ∙ ap (drop n) c.self.view_is
