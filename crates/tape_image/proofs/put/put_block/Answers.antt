use Rattle.std.proofs.Common.{◌%◌, ℕ, List, ◌++◌, length, replicate, arith, Err}
use Rattle.std.proofs.lemmas.Result.{err_from_is_err_and}
use Rattle.byteorder.specs.Endian.{little_bytes}
use Rattle.tape_image.proofs.Pieces.{piece_after, piece_fails, take_one}
use Rattle.tape_image.proofs.put.put_block.Goals as goal

-- the pieces after the content of a block of n bytes
abbrev behind : ℕ → List ℕ
behind n = replicate (n % 2) 0 ++ little_bytes 4 n

pub returns-in_err-put_word : goal.returns-in_err-put_word
returns-in_err-put_word g c =
    let content = c.args.content.now in
    let n = length content in
    let p = err_from_is_err_and c.from_residual.result c.from_residual.ensures.1 in
    rw (p.1, p.2)
    (piece_fails _ _ (little_bytes 4 n) (content ++ behind n) _ c.in_err-put_word.ensures)

pub returns-in_err-write_bytes : goal.returns-in_err-write_bytes
returns-in_err-write_bytes g c =
    let content = c.args.content.now in
    let n = length content in
    let p = err_from_is_err_and c.from_residual-in_err-write_bytes.result
    c.from_residual-in_err-write_bytes.ensures.1 in
    rw (p.1, p.2) (piece_after _ _ _ (little_bytes 4 n) (content ++ behind n) (Err _)
    c.in_ok-put_word.ensures
    (piece_fails _ _ content (behind n) _ c.in_err-write_bytes.ensures))

pub returns-in_err-write_bytes-2 : goal.returns-in_err-write_bytes-2
returns-in_err-write_bytes-2 g c =
    let content = c.args.content.now in
    let n = length content in
    let p = err_from_is_err_and c.from_residual-in_err-write_bytes-2.result
    c.from_residual-in_err-write_bytes-2.ensures.1 in
    rw (p.1, p.2) (piece_after _ _ _ (little_bytes 4 n) (content ++ behind n) (Err _)
    c.in_ok-put_word.ensures
    (piece_after _ _ _ content (behind n) (Err _) c.in_ok-write_bytes.ensures
    (piece_fails _ _ (replicate (n % 2) 0) (little_bytes 4 n) _
    (rw (take_one (n % 2) (omega arith)) at c.in_err-write_bytes-2.ensures))))

pub returns : goal.returns
returns g c =
    let content = c.args.content.now in
    let n = length content in
    piece_after _ _ _ (little_bytes 4 n) (content ++ behind n) _ c.in_ok-put_word.ensures
    (piece_after _ _ _ content (behind n) _ c.in_ok-write_bytes.ensures
    (piece_after _ _ _ (replicate (n % 2) 0) (little_bytes 4 n) _
    (rw (take_one (n % 2) (omega arith)) at c.in_ok-write_bytes-2.ensures) c.put_word-2.ensures))
