use Rattle.std.proofs.Common.{◌≡◌, ◌≤◌, ◌+◌, ◌*◌, ℕ, length, take, arith}
use Rattle.tape_core.specs.declared.memory.MemorySink.{MemorySink}
use Rattle.tape_core.specs.{Entries.end_from, Known.most_staged, Memory.portions}
use Rattle.tape_core.proofs.Laid.{parts_length, weight_front, end_front}
use Rattle.tape_core.proofs.memory.MemorySink.weight_to.Goals as goal

-- the weight of the first parts is at most the limit of a sink
few : (sink : MemorySink) (n end : ℕ) → n ≤ length (portions sink)
    → end ≡ end_from 0 (take n sink.entries.items) → 5 * n + end ≤ most_staged
few sink n end within is =
    let es = sink.entries.items in
    let below = end_front n 0 es (length sink.bytes.items) sink.laid in
    omega (arith, within, sink.light, is, below, parts_length 0 es sink.bytes.items)

pub overflow_mul-result : goal.overflow_mul-result
overflow_mul-result c =
    let sink = c.args.self.now in
    omega (arith, c.requires, sink.light, parts_length 0 sink.entries.items sink.bytes.items)

pub overflow_add-result : goal.overflow_add-result
overflow_add-result c =
    omega (arith, few c.args.self.now c.args.number c.end_of.result c.requires c.end_of.ensures)

pub returns-clause-value : goal.returns-clause-value
returns-clause-value c =
    let sink = c.args.self.now in
    let es = sink.entries.items in
    let many = parts_length 0 es sink.bytes.items in
    let w =
    weight_front c.args.number es sink.bytes.items sink.laid (omega (arith, c.requires, many)) in
    omega (arith, w, c.end_of.ensures)

pub returns-clause-limit : goal.returns-clause-limit
returns-clause-limit c =
    omega (arith, few c.args.self.now c.args.number c.end_of.result c.requires c.end_of.ensures)
