-- No place at which items begin again is sought where an item begins, or the medium ends.
use Rattle.std.proofs.Common.{◌≡◌, ℕ, ◌+◌, ◌-◌, ◌%◌, ◌≤◌, Bool, true, if◌then◌else◌, List}
use Rattle.std.proofs.Common.{◌++◌, length, take, drop, Option, None, Some, sym, ap, ◌∙◌, arith}
use Rattle.std.proofs.Common.{length-append, take-append-drop}
use Rattle.std.proofs.lemmas.List.{length-take}
use Rattle.byteorder.specs.Endian.{little_number}
use Rattle.tape_image.specs.declared.item.Ending.TheVariants.{Marked, Physical}
use Rattle.tape_image.specs.Tape.{TapeItem}
use Rattle.tape_image.specs.Word.{mark_word, gap_word, end_word, block_len, block_extent}
use Rattle.tape_image.specs.Spelling.{IsSpelling, a_mark, a_gap, a_block, EndsHere}
use Rattle.tape_image.specs.Resync.{place_again, window, behind_word, same_words, behind_block}
use Rattle.tape_image.specs.Resync.{again_behind, found, items_again}
use Rattle.tape_image.specs.ResyncLaws.{NoneAtItems, NoneAtEnds}
use Rattle.tape_image.proofs.Words.{word_in_front, word-append, block_len-bounds}
use Rattle.tape_image.proofs.Spellings.{framed_long, framed_word, framed_trail}
use Rattle.tape_image.proofs.Formats.{take_behind}
use Rattle.tape_image.proofs.{FormatWords.not_less, FormatExtended.is_word}

-- where items begin again, by the first word
place_by : (xs : List ℕ) (w : ℕ) → 4 ≤ length xs → little_number 4 xs ≡ w
    → place_again xs ≡ behind_word (block_len w) w xs
place_by xs w four e =
    ap (λ (t : Bool). if t then None
    else behind_word (block_len (little_number 4 xs)) (little_number 4 xs) xs)
    (not_less (length xs) 4 four)
    ∙ ap (λ v. behind_word (block_len v) v xs) e

-- a block between equal words is an item
block_seen : (xs : List ℕ) (size : ℕ) → size ≤ length xs → same_words size xs ≡ true
    → behind_block size xs ≡ None
block_seen xs size h e =
    ap (λ (t : Bool). if t then None else if same_words size xs then None
    else if again_behind (drop size xs) then Some size else found xs)
    (not_less (length xs) size h)
    ∙ ap (λ (t : Bool). if t then None
    else if again_behind (drop size xs) then Some size else found xs) e

none_at : (s zs : List ℕ) (given : List TapeItem) → IsSpelling s given
    → place_again (s ++ zs) ≡ None
none_at s zs given (a_mark is e) =
    place_by (s ++ zs) mark_word (omega (arith, length-append s zs, is.four))
    (word_in_front s zs mark_word is)
none_at s zs given (a_gap is e) =
    place_by (s ++ zs) gap_word (omega (arith, length-append s zs, is.four))
    (word_in_front s zs gap_word is)
none_at s zs given (a_block w content n f e) =
    let m = length content in
    let xs = s ++ zs in
    let size : length s ≡ block_extent m = framed_long s w content f in
    let lead : little_number 4 xs ≡ w = framed_word s zs w content f in
    let trail : little_number 4 (drop (block_extent m - 4) xs) ≡ w =
    ap (λ k. little_number 4 (drop k xs)) {x = block_extent m - 4} {y = 4 + m + m % 2}
    (omega arith) ∙ framed_trail s zs w content f in
    place_by xs w (omega (arith, length-append s zs, size)) lead
    ∙ ap (λ o. behind_word o w xs) n
    ∙ block_seen xs (block_extent m) (omega (arith, length-append s zs, size))
    (is_word _ _ (trail ∙ sym lead))

-- no encoding is longer than what is looked at
near : (s : List ℕ) (given : List TapeItem) → IsSpelling s given → length s ≤ window
near s given (a_mark is e) = omega (arith, is.four)
near s given (a_gap is e) = omega (arith, is.four)
near s given (a_block w content n f e) =
    let bound = block_len-bounds w (length content) n in
    omega (arith, framed_long s w content f, bound.1)

pub none_at_items : NoneAtItems
none_at_items s rest given is =
    let n = length s in
    ap place_again (take_behind window (window - n) s rest (omega (arith, near s given is)))
    ∙ none_at s (take (window - n) rest) given is

pub none_at_ends : NoneAtEnds
none_at_ends Physical rest e = ap items_again e
none_at_ends Marked rest (four, e) =
    let shown = take window rest in
    let size : 4 ≤ length shown = omega (arith, length-take window rest, four) in
    let is : little_number 4 shown ≡ end_word =
    sym (word-append shown (drop window rest) size)
    ∙ ap (little_number 4) (take-append-drop window rest) ∙ e in
    place_by shown end_word size is
