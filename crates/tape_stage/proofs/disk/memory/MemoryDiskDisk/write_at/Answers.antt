use Rattle.std.proofs.Common.{length}
use Rattle.tape_stage.specs.Holding.{torn_same}
use Rattle.tape_stage.proofs.CallLaws.{did_elapses, written_left, written_open}
use Rattle.tape_stage.proofs.disk.memory.MemoryDiskDisk.write_at.Goals as goal

pub returns-in-Ok-clause-crash : goal.returns-in-Ok-clause-crash
returns-in-Ok-clause-crash c _ =
    let did = c.in-Ok.ensures.ok in
    written_left _ _ _ c.args.place did.0 _ c.count.ensures.content did.1 did.2

pub returns-in-Ok-clause-time : goal.returns-in-Ok-clause-time
returns-in-Ok-clause-time c _ =
    let did = c.in-Ok.ensures.ok in
    did_elapses _ _ _ _ c.count.ensures.content did.2

pub returns-in-Ok-clause-any : goal.returns-in-Ok-clause-any
returns-in-Ok-clause-any c _ =
    let did = c.in-Ok.ensures.ok in
    written_open _ _ _ _ did.0 _ c.count.ensures.content did.1 did.2

pub returns-in-Ok-clause-stays : goal.returns-in-Ok-clause-stays
returns-in-Ok-clause-stays c _ x left =
    let did = c.in-Ok.ensures.ok in
    written_open _ _ _ _ did.0 _ c.count.ensures.content did.1 did.2 _ _
    left (torn_same c.args.place (length c.args.bytes.now) x)
