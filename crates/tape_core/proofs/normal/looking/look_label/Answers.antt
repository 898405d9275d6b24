use Rattle.tape_core.proofs.NormalForm.LookedAt.{label_shown}
use Rattle.tape_core.proofs.normal.looking.look_label.Goals as goal

pub returns : goal.returns
returns c =
    rw (c.within.ensures, c.step.ensures.exact) (label_shown c.args.room c.args.place c.args.word
    c.read_u32.result c.args.bytes.now c.if-bytes-trail.false c.read_u32.ensures
    c.if-read_u32-word.false)
