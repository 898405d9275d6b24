use Rattle.std.proofs.Common.{◌≡◌, ◌∙◌, ◌+◌, ◌-◌, ◌≤◌, ◌<◌, ◌%◌, ◌^◌, List, ℕ, length}
use Rattle.std.proofs.Common.{take, drop, min, ap, subst, arith}
use Rattle.std.proofs.lemmas.List.{length-take-le, length-drop, take-take, take_at}
use Rattle.tape_stage.proofs.HoldingLaws.{held_piece}
use Rattle.tape_stage.proofs.disk.buffered.Buffered.give.Goals as goal

-- an offset that wraps around is greater than the number of buffered bytes
unwrapped : (place start held : ℕ) → place < 2 ^ 64 → start + held < 2 ^ 64
    → (place + (2 ^ 64 - start)) % 2 ^ 64 ≤ held
    → (start ≤ place) × ((place + (2 ^ 64 - start)) % 2 ^ 64 ≡ place - start)
unwrapped place start held low end small =
    (omega (arith, low, end, small), omega (arith, low, end, small))

-- the bytes from this offset on
abbrev rest_from : ℕ → List ℕ → List ℕ
rest_from at held = take (length held - at) (drop at held)

pub returns-clause-bytes : goal.returns-clause-bytes
returns-clause-bytes g c honest =
    let h = c.args.self.now in
    let n : ℕ = c.min-count.result in
    let held : List ℕ = c.deref.result.now in
    let long : length held ≡ length h.bytes.items = ap length c.deref.ensures.value in
    let (from, wrapped) = unwrapped c.args.place h.start (length held) (omega arith)
    (omega (arith, long, h.low)) (omega (arith, long, c.if-at-len.false)) in
    let at : ℕ = c.args.place - h.start in
    let least : n ≡ min (length (rest_from at held)) (length c.args.buf.now) =
    subst (λ k. n ≡ min (length (rest_from k held)) (length c.args.buf.now)) wrapped
    c.min-count.ensures in
    let rest : length (rest_from at held) ≡ length held - at =
    length-take-le (length held - at) (drop at held) (omega (arith, length-drop at held)) in
    let size : length c.copy_from_slice.new.self ≡ n = c.copy_from_slice.ensures.len
    ∙ length-take-le n c.args.buf.now (omega (arith, least)) in
    take_at c.copy_from_slice.new.self (drop n c.args.buf.now) n size
    ∙ subst (λ k. c.copy_from_slice.new.self ≡ take n (rest_from k held)) wrapped
    c.copy_from_slice.ensures.after
    ∙ take-take n (length held - at) (drop at held) (omega (arith, least, rest))
    ∙ ap (λ b. take n (drop at b)) c.deref.ensures.value
    ∙ held_piece h.start at n c.args.place h.bytes.items (g.D.Disk.seen h.disk)
    (omega (arith, from)) (omega (arith, g.met.D.Disk.long_as_seen h.disk honest, h.within))
    (omega (arith, least, rest, long))
