use Rattle.std.proofs.Common.{◌≡◌, ◌<◌, ◌-◌, suc, length, take, refl, sym, ap, ◌∙◌, arith}
use Rattle.std.proofs.lemmas.Option.{slice_get_read}
use Rattle.tape_core.proofs.Laid.{parts_length, end_get}
use Rattle.tape_core.specs.Entries.{end_from}
use Rattle.tape_core.proofs.memory.MemorySink.end_of.Goals as goal

pub index-requires : goal.index-requires
index-requires c =
    let sink = c.args.self.now in
    omega (
      arith,
      c.requires,
      c.if-number-eq0.false,
      parts_length 0 sink.entries.items sink.bytes.items,
    )

pub returns : goal.returns
returns c =
    let sink = c.args.self.now in
    let es = sink.entries.items in
    let n = c.args.number - 1 in
    let within : n < length es =
    omega (arith, c.requires, c.if-number-eq0.false, parts_length 0 es sink.bytes.items) in
    let one : suc n ≡ c.args.number = omega (arith, c.if-number-eq0.false) in
    let at = slice_get_read es (length es) n c.index.result.now refl within c.index.ensures in
    sym (end_get 0 es n c.index.result.now at) ∙ ap (λ k. end_from 0 (take k es)) one
