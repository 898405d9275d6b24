use Rattle.std.proofs.Common.{sym}
use Rattle.tape_stage.proofs.TextLaws.{text_fits}
use Rattle.tape_stage.proofs.point.point_at.Goals as goal

pub checkpoint_of-requires : goal.checkpoint_of-requires
checkpoint_of-requires c = text_fits c.args.wide c.args.text.now c.in_ok-fields.field-0-0
    c.in_ok-fields.fields (sym c.in_ok-fields.ensures)
