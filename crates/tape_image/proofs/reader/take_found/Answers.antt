use Rattle.std.proofs.Common.{◌≡◌, ◌⊎◌, length, sym, ◌∙◌, arith}
use Rattle.std.proofs.lemmas.Result.{err_from_is_err_and}
use Rattle.tape_image.specs.declared.block.Found.TheVariants.{Block, Bad}
use Rattle.tape_image.proofs.Blocks.{word_falls, word_ends, word_read, over_limit, length_found}
use Rattle.tape_image.proofs.Blocks.{block_falls, block_differs, block_found}
use Rattle.tape_image.proofs.reader.take_found.Goals.{in-Block, in-Block-2}
use Rattle.tape_image.proofs.reader.take_found.Goals as goal

pub returns-in_err-fill : goal.returns-in_err-fill
returns-in_err-fill g c =
    let p = err_from_is_err_and c.from_residual.result c.from_residual.ensures.1 in
    let four : length c.fill.new.buffer ≡ 4 = c.fill.auto.buffer in
    rw (p.1, p.2) (word_falls c.args.place _ _ _ c.in_err-fill.ensures.cause
    (rw four at c.in_err-fill.ensures.taken))

pub returns-in_default : goal.returns-in_default
returns-in_default g c =
    let four : length c.fill.new.buffer ≡ 4 = c.fill.auto.buffer in
    word_ends c.args.place _ _ _ _ c.in_ok-fill.ensures.taken (omega arith)
    (omega (arith, four, c.in_ok-fill.ensures.taken.fits)) four

pub returns-then-place-extent : goal.returns-then-place-extent
returns-then-place-extent g c =
    let four : length c.fill.new.buffer ≡ 4 = c.fill.auto.buffer in
    let word = word_read _ _ _ _ c.read_u32-word.result c.in_ok-fill.ensures.taken
    (c.in-4.is ∙ sym four) c.in-4.is c.read_u32-word.ensures in
    over_limit c.args.place c.read_u32-word.result c.in-Some.begun _ _ word
    c.in-Some.ensures (omega (arith, c.extent.ensures.is))

pub returns-in_err-trail : goal.returns-in_err-trail
returns-in_err-trail g c =
    let four : length c.fill.new.buffer ≡ 4 = c.fill.auto.buffer in
    let word = word_read _ _ _ _ c.read_u32-word.result c.in_ok-fill.ensures.taken
    (c.in-4.is ∙ sym four) c.in-4.is c.read_u32-word.ensures in
    let n = c.match-found.len in
    let which : (c.in-Some.begun ≡ Block n) ⊎ (c.in-Some.begun ≡ Bad n) =
    elim c.match-found.branch [
      | in-Block w ↦ rw w.len-is w.in-Block.is
      | in-Block-2 w ↦ rw w.len-is w.in-Block.is
    ] in
    let (len, size) = length_found c.read_u32-word.result n _ c.in-Some.ensures which in
    let p = err_from_is_err_and c.from_residual-in_err-trail.result
    c.from_residual-in_err-trail.ensures.1 in
    rw (p.1, p.2) (block_falls c.args.place c.read_u32-word.result n _ _ _ word.bytes _
    (omega (arith, c.extent.ensures.is, size)) len word.is word.taken c.in_err-trail.ensures)

pub returns-then-trail-word : goal.returns-then-trail-word
returns-then-trail-word g c =
    let four : length c.fill.new.buffer ≡ 4 = c.fill.auto.buffer in
    let word = word_read _ _ _ _ c.read_u32-word.result c.in_ok-fill.ensures.taken
    (c.in-4.is ∙ sym four) c.in-4.is c.read_u32-word.ensures in
    let n = c.match-found.len in
    let which : (c.in-Some.begun ≡ Block n) ⊎ (c.in-Some.begun ≡ Bad n) =
    elim c.match-found.branch [
      | in-Block w ↦ rw w.len-is w.in-Block.is
      | in-Block-2 w ↦ rw w.len-is w.in-Block.is
    ] in
    let (len, size) = length_found c.read_u32-word.result n _ c.in-Some.ensures which in
    let (_, t, behind) = c.in_ok-trail.ensures in
    block_differs c.args.place c.read_u32-word.result n c.in_ok-trail.trail _ _ _ _ word.bytes
    t.content
    (omega (arith, c.extent.ensures.is, size)) len word.is word.taken t.taken t.count behind
    c.if-trail-word.true

pub returns : goal.returns
returns g c =
    let four : length c.fill.new.buffer ≡ 4 = c.fill.auto.buffer in
    let word = word_read _ _ _ _ c.read_u32-word.result c.in_ok-fill.ensures.taken
    (c.in-4.is ∙ sym four) c.in-4.is c.read_u32-word.ensures in
    let n = c.match-found.len in
    let which : (c.in-Some.begun ≡ Block n) ⊎ (c.in-Some.begun ≡ Bad n) =
    elim c.match-found.branch [
      | in-Block w ↦ rw w.len-is w.in-Block.is
      | in-Block-2 w ↦ rw w.len-is w.in-Block.is
    ] in
    let (_, size) = length_found c.read_u32-word.result n _ c.in-Some.ensures which in
    block_found c.args.place c.read_u32-word.result n c.in_ok-trail.trail _ _ _ _ word.bytes _
    (omega (arith, c.extent.ensures.is, size)) c.in-Some.ensures which word.is word.taken
    c.in_ok-trail.ensures c.if-trail-word.false
