use Rattle.std.proofs.Common.{◌≡◌, ◌+◌, ◌-◌, ◌++◌, ◌∙◌, ap, ℕ, List, length, take, drop}
use Rattle.std.proofs.Common.{rules, arith, length-append}
use lib.Seq.{take_at}
use Rattle.tape_image.proofs.Formats.{kept_gives}
use Rattle.tape_image.proofs.format.SimhImage.give_kept.Goals as goal

pub returns-then-at-kept : goal.returns-then-at-kept
returns-then-at-kept g c =
    let now = c.args.self.now in
    let at = c.args.at in
    let n = c.min-count.result in
    let front = c.copy_from_slice.new.self in
    let size : length front ≡ n = search rules in
    let given : take n (front ++ drop n c.args.buf.now) ≡ front =
    take_at front (drop n c.args.buf.now) n size in
    let part : front ≡ take n (drop at now.kept.items) =
    c.copy_from_slice.ensures.after
    ∙ ap (λ k. take k (drop at c.as_slice-kept.result.now)) {x = (at + n) - at} {y = n}
    (omega arith)
    ∙ ap (λ (l : List ℕ). take n (drop at l)) c.as_slice-kept.ensures.value in
    rw (given) (
      omega (arith, length-append front (drop n c.args.buf.now), size),
      kept_gives _ now.format now.before now.out now.kept.items now.course at n c.args.word front
          c.requires.out c.requires.on part,
      λ z. absurd (omega (arith, z, c.min-count.ensures)),
    )
