use Rattle.std.proofs.Common.{length, arith, sym, ◌∙◌}
use Rattle.tape_core.proofs.NormalForm.{Enough.no_less}
use Rattle.tape_core.proofs.NormalForm.Begun.{begun_start, other_start, begun_ended, other_ended}
use Rattle.tape_core.proofs.normal.machine.step_at_block.Goals as goal

pub returns-in-Some : goal.returns-in-Some
returns-in-Some c =
    rw (c.in-Start.is) (begun_start c.args.bytes.now c.in-Start.dropped c.in-Some.begun
    (sym c.in-Some.is ∙ c.begin.ensures))

pub returns-in-None-2 : goal.returns-in-None-2
returns-in-None-2 c =
    rw (c.in-Start.is) (sym (other_start c.args.bytes.now c.in-Start.dropped
    (no_less (length c.args.bytes.now) 14 (omega (arith, c.if-bytes-lt-NOISE.false)))
    (sym c.in-None-2.is ∙ c.begin.ensures)))

pub returns-in-Some-begin : goal.returns-in-Some-begin
returns-in-Some-begin c =
    rw (c.in-Ended.is) (sym (begun_ended c.args.bytes.now c.in-Some-begin.field-0
    (sym c.in-Some-begin.is ∙ c.begin-in-Ended.ensures)))

pub returns-in-None-begin : goal.returns-in-None-begin
returns-in-None-begin c =
    rw (c.in-Ended.is) (sym (other_ended c.args.bytes.now
    (sym c.in-None-begin.is ∙ c.begin-in-Ended.ensures)))
