use Rattle.std.proofs.Common.{◌≡◌, ◌==◌, ℕ, List, ◌++◌, length, take, drop, sym, ap, ◌∙◌}
use Rattle.std.proofs.Common.{arith, length-append}
use lib.Seq.{take_at, take_all}
use Rattle.std.proofs.lemmas.List.{length-take}
use Rattle.byteorder.specs.{Endian.little_number}
use Rattle.tape_image.proofs.Words.{word-append}
use Rattle.tape_core.proofs.NormalForm.Giving.{word_gives, none_are}
use Rattle.tape_core.proofs.normal.image.NormalImage.give_word.Goals as goal

pub returns-in-Some : goal.returns-in-Some
returns-in-Some g c =
    let now = c.args.self.now in
    let part = c.read.new.buf in
    let rest = drop 4 c.args.buf.now in
    let w = c.read_u32.result in
    let four : length part ≡ 4 =
    omega (arith, c.read.auto.buf, length-take 4 c.args.buf.now, c.if-buf-lt4.false) in
    let front : take 4 (part ++ rest) ≡ part = take_at part rest 4 four in
    let word : little_number 4 part ≡ w =
    sym (word-append part rest (omega (arith, four))) ∙ sym c.read_u32.ensures in
    let held = none_are now.input.held
    (ap (λ (l : List ℕ). length l == 0) (sym c.bytes.ensures) ∙ sym c.is_empty.ensures
    ∙ c.if-not-is_empty.false) in
    let all : c.in_ok-read.read ≡ 4 = omega (arith, c.if-read-eq4.true) in
    let whole : take 4 part ≡ part = take_all 4 part (omega (arith, four)) in
    let taken = rw (all, whole) at c.in_ok-read.ensures.bytes.0 in
    rw (front, c.in-Some.ensures.size, c.counted-place.ensures) (
      omega (arith, four, length-append part rest),
      word_gives _ _ now.input.held now.room now.place now.inserted.now now.label now.course w part
          held c.requires.inserted c.requires.label c.requires.on c.requires.data c.requires.there
          taken four word c.in-Some.ensures.block.0 c.in-Some.ensures.block.1
          (omega (arith, c.in-Some.ensures.size, c.in-Some.ensures.within)),
      λ z. absurd (omega (arith, z)),
    )
