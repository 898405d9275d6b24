use Rattle.std.proofs.Common.{◌≡◌, ℕ, List, take, sym, ap, ◌∙◌, subst, arith}
use Rattle.tape_core.specs.{Memory.portions, Memory.IsLongestFront, declared.event.Entry.Entry}
use Rattle.tape_core.specs.declared.memory.MemorySink.{MemorySink}
use Rattle.tape_core.specs.Entries.{parts_from, end_from, IsLaid}
use Rattle.tape_core.proofs.{Laid.parts_cut, Laid.laid_cut, Weights.longest_is}
use Rattle.tape_core.proofs.memory.MemorySinkPartSink.cut_to.Goals as goal

-- the parts left are the first parts
cut : (sink : MemorySink) (n end : ℕ) (es : List Entry) (bytes : List ℕ)
    → es ≡ take n sink.entries.items → bytes ≡ take end sink.bytes.items
    → end ≡ end_from 0 (take n sink.entries.items)
    → (parts_from 0 es bytes ≡ take n (portions sink)) × IsLaid es bytes
cut sink n end es bytes first front ends =
    let all = sink.entries.items in
    let own : bytes ≡ take (end_from 0 (take n all)) sink.bytes.items =
    front ∙ ap (λ k. take k sink.bytes.items) ends in (
      ap (λ xs. parts_from 0 xs bytes) first ∙ ap (parts_from 0 (take n all)) own
          ∙ parts_cut n all sink.bytes.items sink.laid,
      subst (λ xs. IsLaid xs bytes) (sym first)
          (subst (IsLaid (take n all)) (sym own) (laid_cut n all sink.bytes.items sink.laid)),
    )

pub invariant_of-self-clause-laid : goal.invariant_of-self-clause-laid
invariant_of-self-clause-laid c =
    (cut c.args.self.now c.front-number.result c.end_of-end.result c.truncate.new.self.items
    c.truncate-2.new.self.items c.truncate.ensures.items c.truncate-2.ensures.items
    c.end_of-end.ensures).1

pub invariant_of-self-clause-light : goal.invariant_of-self-clause-light
invariant_of-self-clause-light c =
    omega (arith, c.args.self.now.light, c.truncate.ensures.len, c.truncate-2.ensures.len)

pub returns-clause-front : goal.returns-clause-front
returns-clause-front c =
    let sink = c.args.self.now in
    let n = c.front-number.result in
    let left = cut sink n c.end_of-end.result
    c.truncate.new.self.items c.truncate-2.new.self.items c.truncate.ensures.items
    c.truncate-2.ensures.items c.end_of-end.ensures in
    subst (λ ps. IsLongestFront c.args.point.now.staged ps (portions sink)) (sym left.0)
    (subst (λ k. IsLongestFront k (take n (portions sink)) (portions sink))
    (ap (λ z. z.staged) c.point.view_is) c.front-number.ensures.front)

pub returns-clause-ok : goal.returns-clause-ok
returns-clause-ok c =
    let sink = c.args.self.now in
    let n = c.front-number.result in
    let left = cut sink n c.end_of-end.result
    c.truncate.new.self.items c.truncate-2.new.self.items c.truncate.ensures.items
    c.truncate-2.ensures.items c.end_of-end.ensures in
    λ front rest e w. longest_is _ (take n (portions sink)) (portions sink) front rest
    c.front-number.ensures.front (sym e) (omega (arith, w, ap (λ z. z.staged) c.point.view_is))
    ∙ sym left.0
