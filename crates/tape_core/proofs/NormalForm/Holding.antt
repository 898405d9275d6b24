-- Bytes that are held in front of a device's.
use Rattle.std.proofs.Common.{◌≡◌, ℕ, ◌+◌, ◌-◌, ◌≤◌, List, ◌++◌, length, take, drop, Option, Some}
use Rattle.std.proofs.Common.{None}
use Rattle.std.proofs.Common.{sym, ap, ◌∙◌, arith, append_assoc, length-take-le}
use Rattle.std.proofs.Common.{[], ◌∷◌, length-append, length-drop, le_refl, drop_at, replicate, ◌%◌}
use Rattle.byteorder.specs.Endian.{little_bytes}
use Rattle.tape_image.specs.Written.{written_block}
use Rattle.std.specs.Io.KnownBytes.{Consumes, Keeps, prepend_known}
use Rattle.std.proofs.lemmas.Slice.{take-put_mid_below}
use borrow.Rule.Slice.PartMut.{put_mid, post_of}
use lib.Seq.{take-add, take-append-le, take_at, paste}

-- bytes that a device gave are held
pub held_more : (a b : Option (List ℕ)) (xs bs : List ℕ) → Consumes a b bs
    → Keeps (prepend_known xs a) (prepend_known (xs ++ bs) b)
held_more None b xs bs c = tt
held_more (Some x) None xs bs c = absurd c
held_more (Some x) (Some y) xs bs c =
    append_assoc xs bs y ∙ ap (λ (l : List ℕ). xs ++ l) (sym c)

-- the bytes after the first `count` of `end` come first
pub moved_front : (xs : List ℕ) (count end : ℕ) → count ≤ end → end ≤ length xs
    → take count xs ++ take (end - count) (paste xs 0 (drop count xs) (end - count)) ≡ take end xs
moved_front xs count end h k =
    let rest = take (end - count) (drop count xs) in
    let size : length rest ≡ end - count =
    length-take-le (end - count) (drop count xs) (omega (arith, length-drop count xs)) in
    ap (λ (l : List ℕ). take count xs ++ l)
    (take_at rest (drop (0 + (end - count)) xs) (end - count) size)
    ∙ sym (take-add count (end - count) xs)
    ∙ ap (λ n. take n xs) {x = count + (end - count)} {y = end} (omega arith)

-- n bytes were put after the first `at`
pub put_more : (xs ys : List ℕ) (at room n : ℕ) → at ≤ length xs → n ≤ length ys
    → take at xs ++ take n ys ≡ take (at + n) (put_mid at room xs ys)
put_more xs ys at room n h k =
    let all = put_mid at room xs ys in
    let post = post_of at room xs in
    ap (λ (l : List ℕ). l ++ take n ys) (sym (take-put_mid_below at room xs ys at (le_refl at) h))
    ∙ ap (λ (l : List ℕ). take at all ++ l) (sym (take-append-le n ys post k)
    ∙ ap (take n) (sym (drop_at (take at xs) (ys ++ post) at (length-take-le at xs h))))
    ∙ sym (take-add at n all)

-- a block with the words of n bytes
worded : ℕ → List ℕ → List ℕ
worded n xs = little_bytes 4 n ++ (xs ++ (replicate (n % 2) 0 ++ little_bytes 4 n))

-- a label between its two words is its block
pub label_block : (xs rest : List ℕ) → length xs ≡ 80
    → 80 ∷ 0 ∷ 0 ∷ 0 ∷ take 84 (xs ++ 80 ∷ 0 ∷ 0 ∷ 0 ∷ rest) ≡ written_block xs
unfolding worded
label_block xs rest e =
    let whole : List ℕ = xs ++ 80 ∷ 0 ∷ 0 ∷ 0 ∷ [] in
    let apart : xs ++ 80 ∷ 0 ∷ 0 ∷ 0 ∷ rest ≡ whole ++ rest =
    sym (append_assoc xs (80 ∷ 0 ∷ 0 ∷ 0 ∷ []) rest) in
    ap (λ (l : List ℕ). 80 ∷ 0 ∷ 0 ∷ 0 ∷ take 84 l) apart
    ∙ ap (λ (l : List ℕ). 80 ∷ 0 ∷ 0 ∷ 0 ∷ l)
    (take_at whole rest 84 (omega (arith, length-append xs (80 ∷ 0 ∷ 0 ∷ 0 ∷ []), e)))
    ∙ ap (λ n. worded n xs) (sym e)

-- bytes put in place of as many
pub size_put : (xs ys : List ℕ) (at room : ℕ) → at + room ≤ length xs → length ys ≡ room
    → length (put_mid at room xs ys) ≡ length xs
size_put xs ys at room h e =
    length-append (take at xs) (ys ++ post_of at room xs)
    ∙ omega (
      arith,
      h,
      e,
      length-append ys (post_of at room xs),
      length-take-le at xs (omega arith),
      length-drop room (drop at xs),
      length-drop at xs,
    )
