use Rattle.std.proofs.Common.{arith}
use Rattle.tape_core.proofs.Laid.{parts_length}
use Rattle.tape_core.proofs.memory.MemorySink.count.Goals as goal

pub returns : goal.returns
returns c =
    let sink = c.args.self.now in
    omega (arith, c.len.ensures, parts_length 0 sink.entries.items sink.bytes.items)
