use Rattle.std.proofs.Common.{arith, sym, ◌∙◌}
use Rattle.std.proofs.Common.{true, false}
use Rattle.tape_core.proofs.Labels.{unpadded_is, unpadded_other, unpadded_short, unpadded_long}
use Rattle.tape_core.proofs.Labels.{padding_is}
use Rattle.tape_run.proofs.salvage.labels.unpadded.Goals as goal
use Rattle.tape_run.proofs.salvage.labels.unpadded.Goals.{else-block-ge80-via-then-block-ge80+then-block-le-LONGEST_LABEL+else-is_padding, else-block-ge80-via-then-block-ge80+else-block-le-LONGEST_LABEL, else-block-ge80-via-else-block-ge80}

pub returns-then-is_padding : goal.returns-then-is_padding
returns-then-is_padding c =
    sym (unpadded_is c.args.block.now (omega (arith, c.if-block-ge80.true))
    (omega (arith, c.if-block-le-LONGEST_LABEL.true))
    (padding_is c.args.block.now true (sym c.is_padding.ensures ∙ c.if-is_padding.true)))

pub returns : goal.returns
returns c = elim c.else-block-ge80.branch [
  | else-block-ge80-via-then-block-ge80+then-block-le-LONGEST_LABEL+else-is_padding w ↦
      sym (unpadded_other c.args.block.now (padding_is c.args.block.now false
      (sym w.is_padding.ensures ∙ w.if-is_padding.false)))
  | else-block-ge80-via-then-block-ge80+else-block-le-LONGEST_LABEL w ↦
      sym (unpadded_long c.args.block.now (omega (arith, w.if-block-le-LONGEST_LABEL.false)))
  | else-block-ge80-via-else-block-ge80 w ↦
      sym (unpadded_short c.args.block.now (omega (arith, w.if-block-ge80.false)))
]
