use Rattle.std.proofs.Common.{◌≡◌, ◌+◌, [], ◌∷◌, ◌++◌, length, sym, ap, ◌∙◌, subst, arith}
use Rattle.tape_core.specs.{declared.event.Entry.Entry, Entries.parts_from, Entries.AreLaid}
use Rattle.tape_core.proofs.Laid.{laid_more, parts_added, weight_all}
use Rattle.tape_core.proofs.memory.MemorySink.add.Goals as goal

pub invariant_of-self-in-Ok-clause-laid : goal.invariant_of-self-in-Ok-clause-laid
invariant_of-self-in-Ok-clause-laid c =
    let sink = c.args.self.now in
    let e : Entry = record { span = c.args.part.span; end = c.len.result } in
    let ends : c.len.result ≡ length sink.bytes.items + length c.args.part.bytes.now =
    omega (arith, c.len.ensures, c.in_ok-extend_from_slice.ensures.len) in
    let finish : c.len.result ≡ length c.extend_from_slice.new.self.items =
    omega (arith, c.len.ensures) in
    let laid = laid_more 0 sink.entries.items (length sink.bytes.items) e sink.laid
    (omega (arith, ends)) (omega (arith, ends, c.requires.short)) in
    subst (λ n. AreLaid 0 c.push.new.self.items n) finish
    (subst (λ es. AreLaid 0 es c.len.result) (sym c.in-Ok.ensures.items) laid)

pub invariant_of-self-in-Ok-clause-light : goal.invariant_of-self-in-Ok-clause-light
invariant_of-self-in-Ok-clause-light c =
    let sink = c.args.self.now in
    let w = weight_all sink.entries.items sink.bytes.items sink.laid in
    omega (arith, c.requires.light, w, c.in-Ok.ensures.len, c.in_ok-extend_from_slice.ensures.len)

pub returns-in-Ok-clause-ok : goal.returns-in-Ok-clause-ok
returns-in-Ok-clause-ok c =
    let sink = c.args.self.now in
    let es = sink.entries.items in
    let more = c.args.part.bytes.now in
    let e : Entry = record { span = c.args.part.span; end = c.len.result } in
    let ends : c.len.result ≡ length sink.bytes.items + length more =
    omega (arith, c.len.ensures, c.in_ok-extend_from_slice.ensures.len) in
    ap (λ xs. parts_from 0 xs c.extend_from_slice.new.self.items) c.in-Ok.ensures.items
    ∙ ap (parts_from 0 (es ++ e ∷ [])) c.in_ok-extend_from_slice.ensures.items
    ∙ parts_added es sink.bytes.items more e sink.laid ends
