use Rattle.std.proofs.Common.{◌≡◌, ◌<◌, ◌≤◌, ℕ, Some, length, take, slice_index_or, refl, sym, ap}
use Rattle.std.proofs.Common.{◌∙◌, arith, slice_get, slice_range}
use Rattle.std.proofs.lemmas.Option.{slice_get_read}
use Rattle.tape_core.proofs.Laid.{parts_length, parts_get, laid_get, LiesBetween, range_length}
use Rattle.tape_core.specs.declared.{memory.MemorySink.MemorySink, event.Entry.Entry}
use Rattle.tape_core.specs.{Entries.end_from, Memory.portions}
use Rattle.tape_core.proofs.memory.MemorySink.lent.Goals as goal

-- the range of the part's bytes, from the entry that was read
lies : (sink : MemorySink) (n : ℕ) (e : Entry) → n < length (portions sink)
    → e ≡ slice_index_or sink.entries.items n e → (slice_get sink.entries.items n ≡ Some e)
    × LiesBetween (end_from 0 (take n sink.entries.items)) e (length sink.bytes.items)
lies sink n e within is =
    let es = sink.entries.items in
    let some : n < length es = omega (arith, within, parts_length 0 es sink.bytes.items) in
    let at = slice_get_read es (length es) n e refl some is in
    (at, laid_get 0 es (length sink.bytes.items) n e sink.laid at)

pub index-entry-requires : goal.index-entry-requires
index-entry-requires c =
    let sink = c.args.self.now in
    omega (arith, c.requires, parts_length 0 sink.entries.items sink.bytes.items)

pub slice_bounds-result-count : goal.slice_bounds-result-count
slice_bounds-result-count c =
    let l =
    lies c.args.self.now c.args.number c.index-entry.result.now c.requires c.index-entry.ensures in
    omega (arith, c.end_of-start.ensures, l.1.rises)

pub slice_bounds-result-start : goal.slice_bounds-result-start
slice_bounds-result-start c =
    let l =
    lies c.args.self.now c.args.number c.index-entry.result.now c.requires c.index-entry.ensures in
    omega (arith, c.end_of-start.ensures, l.1.rises)

pub slice_bounds-result-end : goal.slice_bounds-result-end
slice_bounds-result-end c =
    let l =
    lies c.args.self.now c.args.number c.index-entry.result.now c.requires c.index-entry.ensures in
    omega (arith, c.deref.ensures.len, l.1.within)

pub returns-clause-value : goal.returns-clause-value
returns-clause-value c =
    let sink = c.args.self.now in
    let e = c.index-entry.result.now in
    let l = lies sink c.args.number e c.requires c.index-entry.ensures in
    parts_get 0 sink.entries.items sink.bytes.items c.args.number e l.0
    ∙ ap (λ k. Some (record { span = e.span; bytes = slice_range sink.bytes.items k e.end }))
    (sym c.end_of-start.ensures)
    ∙ ap (λ bs. Some (record { span = e.span; bytes = slice_range bs c.end_of-start.result e.end }))
    (sym c.deref.ensures.value)

pub returns-clause-short : goal.returns-clause-short
returns-clause-short c =
    let e = c.index-entry.result.now in
    let l = lies c.args.self.now c.args.number e c.requires c.index-entry.ensures in
    let fits : e.end ≤ length c.deref.result.now = omega (arith, c.deref.ensures.len, l.1.within) in
    let long = range_length c.deref.result.now c.end_of-start.result e.end
    (omega (arith, c.end_of-start.ensures, l.1.rises)) fits in
    omega (arith, long, c.end_of-start.ensures, l.1.short)
