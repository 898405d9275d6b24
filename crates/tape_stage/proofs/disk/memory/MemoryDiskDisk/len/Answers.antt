use Rattle.tape_stage.proofs.CallLaws.{did_elapses, did_left, did_open}
use Rattle.tape_stage.proofs.disk.memory.MemoryDiskDisk.len.Goals as goal

pub returns-in-Ok-clause-crash : goal.returns-in-Ok-clause-crash
returns-in-Ok-clause-crash c _ = did_left _ _ _ _ c.count.ensures.content c.in-Ok.ensures.ok

pub returns-in-Ok-clause-time : goal.returns-in-Ok-clause-time
returns-in-Ok-clause-time c _ = did_elapses _ _ _ _ c.count.ensures.content c.in-Ok.ensures.ok

pub returns-in-Ok-clause-stays : goal.returns-in-Ok-clause-stays
returns-in-Ok-clause-stays c _ = did_open _ _ _ _ c.count.ensures.content c.in-Ok.ensures.ok
