use Rattle.tape_stage.proofs.CallLaws.{worst_left_now}
use Rattle.tape_stage.proofs.disk.memory.MemoryDisk.crash.Goals as goal

pub returns-then-content-clause-possible : goal.returns-then-content-clause-possible
returns-then-content-clause-possible c = rw (c.from_bytes.ensures.bytes, c.if-content.true)
    (rw c.if-content.true at (worst_left_now c.args.self.content))

pub returns-else-content-clause-possible : goal.returns-else-content-clause-possible
returns-else-content-clause-possible c =
    rw (c.from_bytes-else-content.ensures.bytes, c.if-content.false)
    (rw c.if-content.false at (worst_left_now c.args.self.content))
