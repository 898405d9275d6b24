use Rattle.std.proofs.Common.{◌≡◌, ℕ, ◌-◌, ◌≤◌, ◌<◌, length-append, List, ◌++◌, length, take, drop}
use Rattle.std.proofs.Common.{◌==◌, sym, ◌∙◌, ap, arith}
use lib.Seq.{take-append-le}
use Rattle.std.proofs.lemmas.List.{length-take}
use Rattle.tape_core.specs.NormalForm.Image.{left_in}
use Rattle.tape_core.proofs.NormalForm.Giving.{inserted_gives, passing_gives, over_gives}
use Rattle.tape_core.proofs.NormalForm.Giving.{some_are, none_are}
use Rattle.tape_core.proofs.normal.image.NormalImage.give.Goals as goal

pub returns-then-not-is_empty-clause-given : goal.returns-then-not-is_empty-clause-given
returns-then-not-is_empty-clause-given g c =
    let now = c.args.self.now in
    let n = c.copy_front-count.result.0 in
    let some = some_are (length now.inserted.now)
    (sym c.is_empty.ensures ∙ c.if-not-is_empty.true) in
    let room : 0 < length c.copy_front-count.new.buf =
    omega (arith, c.requires, c.copy_front-count.auto.buf) in (
      c.copy_front-count.ensures.bound,
      inserted_gives _ now.inserted.now (take n c.copy_front-count.new.buf)
          c.copy_front-count.result.1.now
          (λ xs. now.label ++ left_in now.course now.room now.place xs)
          c.copy_front-count.ensures.bytes,
      λ z. absurd (omega (arith, z, c.copy_front-count.ensures.some some room)),
    )

pub returns-in-Passing-clause-given : goal.returns-in-Passing-clause-given
returns-in-Passing-clause-given g c =
    let now = c.args.self.now in
    let count = c.in-Passing.count in
    let n = c.in_ok-read-in-Passing.read in
    let most = c.min-most.result in
    let part = c.read.new.buf in
    let bound = c.in_ok-read-in-Passing.ensures.bound in
    let size : length part ≡ most =
    omega (arith, c.read.auto.buf, length-take most c.args.buf.now, c.min-most.ensures) in
    let some : 0 < length part =
    omega (arith, size, c.requires, c.min-most.ensures, c.if-count-eq0.false) in
    let all : n ≤ length (part ++ drop most c.args.buf.now) =
    omega (arith, bound.0, length-append part (drop most c.args.buf.now)) in
    let inserted = none_are now.inserted.now (sym c.is_empty.ensures ∙ c.if-not-is_empty.false) in
    let label = none_are now.label
    (ap (λ (l : List ℕ). length l == 0) (sym c.bytes.ensures) ∙ sym c.is_empty-2.ensures
    ∙ c.if-not-is_empty-2.false) in
    let given = passing_gives _ _ now.room now.place now.inserted.now now.label now.course count
    (count - n) n (take n part) inserted label c.in-Passing.is
    c.in_ok-read-in-Passing.ensures.bytes.0
    (omega (arith, bound.0, bound.1, size, c.min-most.ensures))
    (λ z. c.in_ok-read-in-Passing.ensures.bytes.1 z some) in
    rw (take-append-le n part (drop most c.args.buf.now) bound.0) (all, given.0, given.1)

pub returns-in-Over-clause-given : goal.returns-in-Over-clause-given
returns-in-Over-clause-given g c =
    let now = c.args.self.now in
    let inserted = none_are now.inserted.now (sym c.is_empty.ensures ∙ c.if-not-is_empty.false) in
    let label = none_are now.label
    (ap (λ (l : List ℕ). length l == 0) (sym c.bytes.ensures) ∙ sym c.is_empty-2.ensures
    ∙ c.if-not-is_empty-2.false) in
    let read = c.in_ok-read-in-Over in
    let some : 0 < length c.read-in-Over.new.buf =
    omega (arith, c.requires, c.read-in-Over.auto.buf) in
    let some : 0 < length c.read-in-Over.new.buf =
    omega (arith, c.requires, c.read-in-Over.auto.buf) in
    let given = over_gives _ _ now.room now.place now.inserted.now now.label now.course
    read.field-0 (take read.field-0 c.read-in-Over.new.buf) inserted label c.in-Looking.is
    c.in-Over.is read.ensures.bytes.0 (λ z. read.ensures.bytes.1 z some) in
    (read.ensures.bound.0, given.0, given.1)
