use Rattle.std.proofs.Common.{◌≡◌, ℕ, ◌+◌, ◌≤◌, ◌%◌, length, arith, take, drop, replicate, sym, ◌∙◌}
use Rattle.std.proofs.{Common.length-drop, lemmas.List.length-take-le, lemmas.List.take-append-drop}
use Rattle.std.proofs.lemmas.Result.{err_from_is_err_and}
use Rattle.tape_image.proofs.{Taken.FallsShort-trans, Rests.rest_at_once, Rests.trail_word}
use Rattle.std.proofs.Common.{List, Option, ◌++◌, ◌<◌, take_at}
use Rattle.std.specs.Io.KnownBytes.{Consumes}
use Rattle.tape_image.specs.{Device.TakesContent, Device.Passes, Word.longest_block}
use Rattle.tape_image.proofs.block.take_rest.Goals as goal

-- the first pads + 4 of five bytes, which take a pad byte and a word
piece_long : (pads : ℕ) → pads ≤ 1 → length (take {A = ℕ} (pads + 4) (replicate 5 0)) ≡ pads + 4
piece_long pads few = length-take-le {A = ℕ} (pads + 4) (replicate 5 0) (omega arith)

pub returns-then-end-buffer : goal.returns-then-end-buffer
returns-then-end-buffer g c =
    let held = c.fill_all.new.buffer in
    let long : length (take (c.args.len + c.args.len % 2 + 4) c.args.buffer.now)
    ≡ c.args.len + c.args.len % 2 + 4 =
    length-take-le (c.args.len + c.args.len % 2 + 4) c.args.buffer.now
    (omega (arith, c.if-end-buffer.true)) in
    rest_at_once _ _ c.args.word c.args.len (c.args.len + c.args.len % 2 + 4) _ _ held
    (drop (c.args.len + c.args.len % 2 + 4) c.args.buffer.now) c.in_ok-fill_all.ensures
    (omega (arith, c.fill_all.auto.buffer, long)) (omega arith) (omega arith) c.read_u32.ensures

-- the content of a bad block was skipped
is_skipped : (old mid : Option (List ℕ)) (w n : ℕ) (buffer : List ℕ) → longest_block < w
    → Passes old mid n → TakesContent old mid w n buffer
is_skipped old mid w n buffer many gone = record {
  content = gone.bytes;
  taken = gone.taken;
  count = gone.count;
  held = λ few. absurd (omega arith);
}

-- the content of a good block was read into the start of the buffer
is_read : (old mid : Option (List ℕ)) (w n : ℕ) (content rest : List ℕ) → Consumes old mid content
    → length content ≡ n → TakesContent old mid w n (content ++ rest)
is_read old mid w n content rest taken long = record {
  content = content;
  taken = taken;
  count = long;
  held = λ _. sym (take_at content rest n long);
}

pub returns-in_err-fill_all-3 : goal.returns-in_err-fill_all-3
returns-in_err-fill_all-3 g c =
    let p = err_from_is_err_and c.from_residual-in_err-fill_all-3.result
    c.from_residual-in_err-fill_all-3.ensures.1 in
    let took = c.if-word-gt-LONGEST_BLOCK in
    let t : TakesContent (g.R.Read.remaining c.args.device.now) (g.R.Read.remaining took.device)
    c.args.word c.args.len took.buffer =
    elim took.branch [
      | goal.then-word-gt-LONGEST_BLOCK+in_ok-pass w ↦
          rw w.device-is (is_skipped _ _ c.args.word c.args.len _ w.if-word-gt-LONGEST_BLOCK.true
          w.in_ok-pass.ensures)
      | goal.else-word-gt-LONGEST_BLOCK+in_ok-fill_all-2 w ↦
          let few = c.requires.long w.if-word-gt-LONGEST_BLOCK.false in
          rw (w.device-is, w.buffer-is) (is_read _ _ c.args.word c.args.len _ _
          w.in_ok-fill_all-2.ensures (omega (
            arith,
            w.fill_all-else-word-gt-LONGEST_BLOCK.auto.buffer,
            length-take-le c.args.len c.args.buffer.now (omega (arith, few)),
          )))
    ] in
    let size = c.fill_all-2.auto.buffer ∙ piece_long (c.args.len % 2) (omega arith) in
    rw (p.1, p.2) (FallsShort-trans _ _ _ t.content (length c.fill_all-2.new.buffer)
    (c.args.len + (c.args.len % 2 + 4)) _ t.taken (omega (arith, t.count, size))
    c.in_err-fill_all-3.ensures)

pub returns : goal.returns
returns g c =
    let took = c.if-word-gt-LONGEST_BLOCK in
    let t : TakesContent (g.R.Read.remaining c.args.device.now) (g.R.Read.remaining took.device)
    c.args.word c.args.len took.buffer =
    elim took.branch [
      | goal.then-word-gt-LONGEST_BLOCK+in_ok-pass w ↦
          rw w.device-is (is_skipped _ _ c.args.word c.args.len _ w.if-word-gt-LONGEST_BLOCK.true
          w.in_ok-pass.ensures)
      | goal.else-word-gt-LONGEST_BLOCK+in_ok-fill_all-2 w ↦
          let few = c.requires.long w.if-word-gt-LONGEST_BLOCK.false in
          rw (w.device-is, w.buffer-is) (is_read _ _ c.args.word c.args.len _ _
          w.in_ok-fill_all-2.ensures (omega (
            arith,
            w.fill_all-else-word-gt-LONGEST_BLOCK.auto.buffer,
            length-take-le c.args.len c.args.buffer.now (omega (arith, few)),
          )))
    ] in
    let pads = c.args.len % 2 in
    let held = c.fill_all-2.new.buffer in
    let long = c.fill_all-2.auto.buffer ∙ piece_long pads (omega arith) in (
      _,
      t,
      record {
        pad = take pads held;
        trail = drop pads held;
        taken = rw (take-append-drop pads held) c.in_ok-fill_all-3.ensures;
        pad_is = length-take-le pads held (omega (arith, long));
        trail_is = record {
          four = omega (arith, length-drop pads held, long);
          value =
              sym (c.read_u32-2.ensures ∙ trail_word pads _ held _ (omega arith) long);
        };
      },
    )
