use Rattle.std.proofs.Common.{◌≡◌, ℕ, ◌-◌, ◌≤◌, ◌<◌, length-append, List, ◌++◌, length, take, drop}
use Rattle.std.proofs.Common.{◌==◌, sym, ◌∙◌, ap, arith}
use lib.Seq.{take-append-le}
use Rattle.std.proofs.lemmas.List.{length-take}
use Rattle.tape_core.proofs.NormalForm.Giving.{passing_gives, none_are}
use Rattle.tape_core.proofs.normal.image.NormalImage.read_plain.Goals as goal

pub returns-in-Passing : goal.returns-in-Passing
returns-in-Passing g c =
    let now = c.args.self.now in
    let count = c.in-Passing.count in
    let n = c.in_ok-read-in-Passing.read in
    let most = c.min-most.result in
    let part = c.read.new.buf in
    let bound = c.in_ok-read-in-Passing.ensures.bound in
    let size : length part ≡ most =
    omega (arith, c.read.auto.buf, length-take most c.args.buf.now, c.min-most.ensures) in
    let some : 0 < length part =
    omega (arith, size, c.if-most-eq0.false) in
    let all : n ≤ length (part ++ drop most c.args.buf.now) =
    omega (arith, bound.0, length-append part (drop most c.args.buf.now)) in
    let inserted = none_are now.inserted.now (sym c.is_empty.ensures ∙ c.if-not-is_empty.false) in
    let label = none_are now.label
    (ap (λ (l : List ℕ). length l == 0) (sym c.bytes.ensures)
    ∙ sym c.is_empty-else-not-is_empty.ensures ∙ c.if-not-is_empty-2.false) in
    let given = passing_gives _ _ now.room now.place now.inserted.now now.label now.course count
    (count - n) n (take n part) inserted label c.in-Passing.is
    c.in_ok-read-in-Passing.ensures.bytes.0
    (omega (arith, bound.0, bound.1, size, c.min-most.ensures))
    (λ z. c.in_ok-read-in-Passing.ensures.bytes.1 z some) in
    rw (take-append-le n part (drop most c.args.buf.now) bound.0) (all, given.0, given.1)
