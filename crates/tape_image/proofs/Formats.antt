-- The SIMH image of an image of another format, and what is left of it after each step.
use Rattle.std.proofs.Common.{◌≡◌, ℕ, zero, suc, ◌+◌, ◌/◌, ◌%◌, ◌^◌, ◌≤◌, ◌<◌, Bool, true, false}
use Rattle.std.proofs.Common.{nat_lt, nat_le, nat_eq, ◌==◌, ◌&&◌, ◌||◌, not, if◌then◌else◌, List, []}
use Rattle.std.proofs.Common.{◌∷◌, ◌++◌, length, take, drop, Option, Some, None, IfSome, refl, sym}
use Rattle.std.proofs.Common.{ap, ◌∙◌, arith, option_map, append_assoc, append-nil, length-append}
use Rattle.std.proofs.Common.{length-drop, min, ◌-◌}
use Rattle.std.proofs.Math.Seq.{take-append-add, take-nil}
use Rattle.std.proofs.Common.{take-append-drop}
use Rattle.std.proofs.lemmas.List.{drop_all}
use Rattle.std.proofs.KnownBytes.{Keeps-refl}
use Rattle.std.specs.List.{starts_with}
use lib.Seq.{take_all, take-append-le, drop-append-le, drop_at, take_at, take-add, drop-drop}
use Rattle.std.proofs.lemmas.Bool.Decides.{nat_tests}
use Rattle.std.proofs.lemmas.List.{length-take}
use Rattle.std.specs.Io.KnownBytes.{Consumes, Keeps, IsAtEnd, prepend_known}
use Rattle.byteorder.specs.Endian.{little_number, little_bytes}
use Rattle.tape_image.proofs.Words.{word-append}
use Rattle.tape_image.specs.Word.{mark_word, gap_word, end_word, block_len}
use Rattle.tape_image.specs.declared.format.ImageFormat.{ImageFormat}
use Rattle.tape_image.specs.declared.format.ImageFormat.TheVariants as formats
use Rattle.tape_image.specs.declared.format.Course.{Course}
use Rattle.tape_image.specs.declared.format.Course.TheVariants.{Looking, Passing}
use Rattle.tape_image.specs.declared.format.Course.TheVariants.{Leaving, Keeping, Giving}
use Rattle.tape_image.specs.declared.format.step.Piece.{Piece}
use Rattle.tape_image.specs.declared.format.step.Piece.TheVariants as pieces
use Rattle.tape_image.specs.declared.format.step.Step.{Step}
use Rattle.tape_image.specs.declared.format.step.Step.TheVariants.{Stop, Give, Leave, Keep}
use Rattle.tape_image.specs.declared.format.step.Chunk.{Chunk}
use Rattle.tape_image.specs.Format.{piece_bytes, passed, left_out, by_step, short, instead}
use Rattle.tape_image.specs.Format.{word_alone, e11_block, class_step, extended_block}
use Rattle.tape_image.specs.Format.{aws_block, aws_header, step_of, first_header, next_header, keep}
use Rattle.tape_image.specs.Format.{Before, after, with_more, kept_block, kept_in, word_behind}
use Rattle.tape_image.specs.{Tape.bad, Written.written}
use Rattle.tape_image.specs.Format.{looked, bytes_in, bytes_after}
use Rattle.tape_image.specs.FormatState.{IsWithin, left_in}

-- ---- an item takes a byte at least, and no more than there are

module _ (front : List ℕ) where
  -- whichever is done
  either : (t : Bool) (a b : Step) → (t ≡ true → IsWithin front a) → (t ≡ false → IsWithin front b)
      → IsWithin front (if t then a else b)
  either true a b h k = h refl
  either false a b h k = k refl

  within_short : IsWithin front (short front)
  within_short = either (length front == 0) _ _ (λ _. tt) (λ _. tt)

  within_word : (w : ℕ) → 4 ≤ length front → IsWithin front (word_alone w)
  within_word w h = either ((w == mark_word) || (w == gap_word)) (instead (pieces.Word w) 4)
      (Stop (pieces.Word w)) (λ _. (omega arith, h)) (λ _. tt)

  within_e11 : (w : ℕ) (n : Option ℕ) → 4 ≤ length front → IsWithin front (e11_block w n)
  within_e11 w None h = within_word w h
  within_e11 w (Some n) h = (omega arith, h)

  -- one of two sizes
  within_either : (piece : Piece) (t : Bool) (m n : ℕ) → 1 ≤ m → 1 ≤ n
      → (t ≡ true → m ≤ length front) → n ≤ length front
      → IsWithin front (instead piece (if t then m else n))
  within_either piece true m n a b h k = (a, h refl)
  within_either piece false m n a b h k = (b, k)

  both_first : (t u : Bool) → (t && u) ≡ true → t ≡ true
  both_first true u e = refl
  both_first false u e = absurd (cc e)

  both_last : (t u : Bool) → (t && u) ≡ true → u ≡ true
  both_last true u e = e
  both_last false u e = absurd (cc e)

  within_class : (w : ℕ) → 4 ≤ length front → IsWithin front (class_step w (drop 4 front))
  within_class w h =
      either (w == 0x80000000) _ _
      (λ _. within_either pieces.Bad
      (nat_le 4 (length (drop 4 front)) && (little_number 4 (drop 4 front) == w)) 8 4
      (omega arith) (omega arith)
      (λ e. eight (both_first (nat_le 4 (length (drop 4 front)))
      (little_number 4 (drop 4 front) == w) e)) h)
      (λ _. either (w == 0xFFFEFFFF) _ _
      (λ _. within_either pieces.Nothing
      (starts_with nat_eq (drop 4 front) (255 ∷ 255 ∷ [])) 2 4 (omega arith) (omega arith)
      (λ _. omega (arith, h)) h)
      (λ _. either ((w == gap_word) || (w == end_word)) _ _ (λ _. within_word w h)
      (λ _. either ((w / 2 ^ 28 == 0) || (w / 2 ^ 28 == 8)) _ _ (λ _. within_word w h)
      (λ _. either ((w / 2 ^ 28 == 7) || (w / 2 ^ 28 == 15)) (instead pieces.Nothing 4)
      (Leave (w % 2 ^ 28 + w % 2 ^ 28 % 2) w) (λ _. (omega arith, h)) (λ _. h)))))
    where
      eight : nat_le 4 (length (drop 4 front)) ≡ true → 8 ≤ length front
      eight e =
          let size = length-drop 4 front in
          let four : 4 ≤ length (drop 4 front) = grind (arith, nat_tests) in
          omega (arith, size, four)

  within_extended : (w : ℕ) (n : Option ℕ) → 4 ≤ length front
      → IsWithin front (extended_block w n (drop 4 front))
  within_extended w None h = within_class w h
  within_extended w (Some n) h = (omega arith, h)

  -- a chunk that is kept has a byte at least
  within_keep : (t : Bool) (n : ℕ) (last : Bool) → 6 ≤ length front → (t && nat_lt 0 n) ≡ true
      → IsWithin front (keep n last)
  within_keep t n last h e =
      let some : nat_lt 0 n ≡ true = both_last t (nat_lt 0 n) e in
      (grind (arith, nat_tests), h)

  within_first : (n flags : ℕ) → 6 ≤ length front → IsWithin front (first_header n flags)
  within_first n flags h =
      either ((flags == 0x40) && (n == 0)) (instead (pieces.Word mark_word) 6) _
      (λ _. (omega arith, h))
      (λ _. either ((flags == 0xA0) && nat_lt 0 n) (aws_block n) _ (λ _. (omega arith, h))
      (λ _. either ((flags == 0x80) && nat_lt 0 n) (keep n false) (Stop (pieces.Word 0x7FFFFFFF))
      (λ e. within_keep (flags == 0x80) n false h e) (λ _. tt)))

  within_next : (n flags : ℕ) → 6 ≤ length front → IsWithin front (next_header n flags)
  within_next n flags h =
      either ((flags == 0) && nat_lt 0 n) (keep n false) _
      (λ e. within_keep (flags == 0) n false h e)
      (λ _. either ((flags == 0x20) && nat_lt 0 n) (keep n true) (Stop (pieces.Word 0x7FFFFFFF))
      (λ e. within_keep (flags == 0x20) n true h e) (λ _. tt))

  within_header : (before : ℕ) (begun : Bool) (n previous flags : ℕ) → 6 ≤ length front
      → IsWithin front (aws_header before begun n previous flags)
  within_header before begun n previous flags h =
      either (not begun && ((n == 0) && ((previous == 0) && (flags == 0)))) _ _ (λ _. tt)
      (λ _. either (not (previous == before)) _ _ (λ _. tt)
      (λ _. either begun (next_header n flags) (first_header n flags)
      (λ _. within_next n flags h) (λ _. within_first n flags h)))

  no_less : (m : ℕ) → nat_lt (length front) m ≡ false → m ≤ length front
  no_less m e = grind (arith, nat_tests)

  pub within_step : (format : ImageFormat) (before : ℕ) (begun : Bool)
      → IsWithin front (step_of format before begun front)
  within_step formats.Extended before begun =
      either (nat_lt (length front) 4) _ _ (λ _. within_short)
      (λ e. within_extended (little_number 4 front) (block_len (little_number 4 front))
      (no_less 4 e))
  within_step formats.E11 before begun =
      either (nat_lt (length front) 4) _ _ (λ _. within_short)
      (λ e. within_e11 (little_number 4 front) (block_len (little_number 4 front)) (no_less 4 e))
  within_step formats.Aws before begun =
      either (nat_lt (length front) 6) _ _
      (λ _. either begun (Stop pieces.Zero) (short front) (λ _. tt) (λ _. within_short))
      (λ e. within_header before begun (little_number 2 front) (little_number 2 (drop 2 front))
      (little_number 2 (drop 4 front)) (no_less 6 e))

-- ---- enough steps

-- what stands for the first item is the same if the rest is
by_rest : (st : Step) (kept xs : List ℕ) (f g : Before → List ℕ → List ℕ)
    → IsWithin (take 8 xs) st
    → ((b : Before) (ys : List ℕ) → length ys < length xs → f b ys ≡ g b ys)
    → by_step st kept xs f ≡ by_step st kept xs g
by_rest (Stop piece) kept xs f g h e = refl
by_rest (Give s) kept xs f g h e =
    let p = s.passed in
    let first = drop s.taken xs in
    let second = drop p.count first in
    let size : length (drop p.last second) < length xs =
    omega (
      arith,
      h.0,
      h.1,
      length-take 8 xs,
      length-drop s.taken xs,
      length-drop p.count first,
      length-drop p.last second,
    ) in
    ap (λ (r : List ℕ). piece_bytes s.front
    ++ (take p.count first ++ (piece_bytes p.tail ++ (take p.last second ++ r))))
    (e (after s.before) (drop p.last second) size)
by_rest (Leave n w) kept xs f g h e =
    go (nat_le 4 (length (drop n (drop 4 xs))) && (little_number 4 (drop n (drop 4 xs)) == w))
  where
    less : length (drop 4 (drop n (drop 4 xs))) < length xs
    less = omega (
      arith,
      h,
      length-take 8 xs,
      length-drop 4 xs,
      length-drop n (drop 4 xs),
      length-drop 4 (drop n (drop 4 xs)),
    )

    go : (t : Bool)
        → (if t then f (after 0) (drop 4 (drop n (drop 4 xs))) else little_bytes 4 w)
        ≡ (if t then g (after 0) (drop 4 (drop n (drop 4 xs))) else little_bytes 4 w)
    go true = e (after 0) (drop 4 (drop n (drop 4 xs))) less
    go false = refl
by_rest (Keep c) kept xs f g h e =
    go (nat_lt (length (drop 6 xs)) c.count) c.last
  where
    less : length (drop c.count (drop 6 xs)) < length xs
    less = omega (
      arith,
      h.0,
      h.1,
      length-take 8 xs,
      length-drop 6 xs,
      length-drop c.count (drop 6 xs),
    )

    go : (t u : Bool)
        → (if t then 0 ∷ []
        else if u
        then kept_block (with_more kept (take c.count (drop 6 xs)))
        ++ f (after c.count) (drop c.count (drop 6 xs))
        else f (record {
          chunk = c.count;
          kept = with_more kept (take c.count (drop 6 xs));
        }) (drop c.count (drop 6 xs)))
        ≡ (if t then 0 ∷ []
        else if u
        then kept_block (with_more kept (take c.count (drop 6 xs)))
        ++ g (after c.count) (drop c.count (drop 6 xs))
        else g (record {
          chunk = c.count;
          kept = with_more kept (take c.count (drop 6 xs));
        }) (drop c.count (drop 6 xs)))
    go true u = refl
    go false true = ap
        (λ (r : List ℕ). kept_block (with_more kept (take c.count (drop 6 xs))) ++ r)
        (e (after c.count) (drop c.count (drop 6 xs)) less)
    go false false = e _ (drop c.count (drop 6 xs)) less

-- any number of steps is enough that is greater than the number of bytes
enough : (s t : ℕ) (format : ImageFormat) (before : Before) (xs : List ℕ) → length xs < s
    → length xs < t → bytes_in s format before xs ≡ bytes_in t format before xs
enough zero t format before xs h k = absurd (omega (arith, h))
enough (suc s) zero format before xs h k = absurd (omega (arith, k))
enough (suc s) (suc t) format before xs h k =
    by_rest (looked format before xs) before.kept xs (bytes_in s format) (bytes_in t format)
    (within_step (take 8 xs) format before.chunk (not (length before.kept == 0)))
    (λ b ys l. enough s t format b ys (omega (arith, h, l)) (omega (arith, k, l)))

-- the bytes, by the first item
pub first_item : (format : ImageFormat) (before : Before) (xs : List ℕ)
    → bytes_after format before xs
    ≡ by_step (looked format before xs) before.kept xs (bytes_after format)
first_item format before xs =
    by_rest (looked format before xs) before.kept xs (bytes_in (length xs) format)
    (bytes_after format)
    (within_step (take 8 xs) format before.chunk (not (length before.kept == 0)))
    (λ b ys l. enough (length xs) (suc (length ys)) format b ys l (omega arith))

-- ---- what is held is what is looked at

-- as many bytes as there are, or eight
take_min : (m : ℕ) (held : List ℕ) → m ≡ min (length held) 8 → take m held ≡ take 8 held
take_min m held e = go (nat_le 8 (length held)) refl
  where
    go : (t : Bool) → nat_le 8 (length held) ≡ t → take m held ≡ take 8 held
    go true f =
        let long : 8 ≤ length held = grind (arith, nat_tests) in
        ap (λ n. take n held) {x = m} {y = 8} (omega (arith, e, long))
    go false f =
        let few : length held < 8 = grind (arith, nat_tests) in
        take_all m held (omega (arith, e, few)) ∙ sym (take_all 8 held (omega (arith, few)))

-- what is held, eight bytes or all that are left, is looked at
pub seen_is : (a : Option (List ℕ)) (format : ImageFormat) (before : ℕ) (begun : Bool)
    (held : List ℕ) (st : Step) (m : ℕ) (whole : Bool) → (whole ≡ true → 8 ≤ length held)
    → (whole ≡ false → (length held < 8) × IsAtEnd a) → m ≡ min (length held) 8
    → st ≡ step_of format before begun (take m held)
    → IfSome (prepend_known held a) (λ xs. st ≡ step_of format before begun (take 8 xs))
seen_is None format before begun held st m whole h k e f = tt
seen_is (Some ys) format before begun held st m true h k e f =
    f ∙ ap (step_of format before begun) (take_min m held e ∙ sym (take-append-le 8 held ys
    (h refl)))
seen_is (Some ys) format before begun held st m false h k e f =
    f ∙ ap (step_of format before begun) (take_min m held e ∙ ap (take 8) (sym (append-nil held)
    ∙ ap (λ (r : List ℕ). held ++ r) (sym (k refl).1)))

-- ---- known bytes

-- the same is left if each known list gives the same
pub maps_same : (a : Option (List ℕ)) (f g : List ℕ → List ℕ) → ((xs : List ℕ) → f xs ≡ g xs)
    → option_map f a ≡ option_map g a
maps_same None f g h = refl
maps_same (Some x) f g h = ap (λ (y : List ℕ). Some y) (h x)

-- the same after some bytes were taken
taken_by : (a b : Option (List ℕ)) (bs : List ℕ) (f g : List ℕ → List ℕ) → Consumes a b bs
    → ((ys : List ℕ) → f (bs ++ ys) ≡ g ys) → Keeps (option_map f a) (option_map g b)
taken_by None b bs f g k h = tt
taken_by (Some x) None bs f g k h = absurd k
taken_by (Some x) (Some y) bs f g k h = sym (ap f k ∙ h y)

-- the same after all bytes were taken
ended_by : (a b : Option (List ℕ)) (bs : List ℕ) (f g : List ℕ → List ℕ) → Consumes a b bs
    → IsAtEnd b → f bs ≡ g [] → Keeps (option_map f a) (option_map g b)
ended_by None b bs f g k z h = tt
ended_by (Some x) None bs f g k z h = absurd k
ended_by (Some x) (Some y) bs f g k z h =
    ap g z ∙ sym h ∙ ap f (sym (append-nil bs) ∙ ap (λ (r : List ℕ). bs ++ r) (sym z) ∙ sym k)

-- bytes that were taken are given on
given_by : (a b : Option (List ℕ)) (bs : List ℕ) (f g : List ℕ → List ℕ) → Consumes a b bs
    → ((ys : List ℕ) → f (bs ++ ys) ≡ bs ++ g ys) → Consumes (option_map f a) (option_map g b) bs
given_by None b bs f g k h = tt
given_by (Some x) None bs f g k h = absurd k
given_by (Some x) (Some y) bs f g k h = ap f k ∙ h y

pub drop_behind : (count left : ℕ) (bs ys : List ℕ) → length bs + left ≡ count
    → drop count (bs ++ ys) ≡ drop left ys
drop_behind count left bs ys e =
    ap (λ n. drop n (bs ++ ys)) (sym e) ∙ sym (drop-drop left (length bs) (bs ++ ys))
    ∙ ap (drop left) (drop_at bs ys (length bs) refl)

pub take_behind : (count left : ℕ) (bs ys : List ℕ) → length bs + left ≡ count
    → take count (bs ++ ys) ≡ bs ++ take left ys
take_behind count left bs ys e =
    ap (λ n. take n (bs ++ ys)) (sym e) ∙ take-add (length bs) left (bs ++ ys)
    ∙ ap (λ (l : List ℕ). l ++ take left (drop (length bs) (bs ++ ys)))
    (take_at bs ys (length bs) refl)
    ∙ ap (λ (l : List ℕ). bs ++ take left l) (drop_at bs ys (length bs) refl)

-- ---- steps of an item

-- some of the bytes to be given on were taken
pass_more : (count left : ℕ) (tail : Piece) (last : ℕ) (bs ys : List ℕ) (f : List ℕ → List ℕ)
    → length bs + left ≡ count
    → passed (record { count = count; tail = tail; last = last }) (bs ++ ys) f
    ≡ bs ++ passed (record { count = left; tail = tail; last = last }) ys f
pass_more count left tail last bs ys f e =
    ap (λ (l : List ℕ). take count (bs ++ ys) ++ behind l) (drop_behind count left bs ys e)
    ∙ ap (λ (l : List ℕ). l ++ behind (drop left ys)) (take_behind count left bs ys e)
    ∙ append_assoc bs (take left ys) (behind (drop left ys))
  where
    behind : List ℕ → List ℕ
    behind l = piece_bytes tail ++ (take last l ++ f (drop last l))

-- nothing is left to be given on
end_more : (count : ℕ) (tail : Piece) (last : ℕ) (f : List ℕ → List ℕ)
    → passed (record { count = count; tail = tail; last = last }) [] f
    ≡ passed (record { count = 0; tail = tail; last = last }) [] f
end_more zero tail last f = refl
end_more (suc n) tail last f = refl

-- some of the bytes to be left out were taken
leave_more : (count left w : ℕ) (bs ys : List ℕ) (f : List ℕ → List ℕ) → length bs + left ≡ count
    → left_out count w (bs ++ ys) f ≡ left_out left w ys f
leave_more count left w bs ys f e =
    ap (λ (l : List ℕ). if nat_le 4 (length l) && (little_number 4 l == w) then f (drop 4 l)
    else little_bytes 4 w) (drop_behind count left bs ys e)

-- too few bytes are there to leave out a word
few_more : (w : ℕ) (xs : List ℕ) (f : List ℕ → List ℕ) → length xs < 4
    → left_out 0 w xs f ≡ little_bytes 4 w
few_more w xs f h =
    let few : nat_le 4 (length xs) ≡ false = grind (arith, nat_tests) in
    rw (few) refl

no_more : (n w : ℕ) (f : List ℕ → List ℕ) → left_out n w [] f ≡ little_bytes 4 w
no_more zero w f = refl
no_more (suc n) w f = refl

-- the bytes end among those to be left out
leave_end : (count left w : ℕ) (bs : List ℕ) (f : List ℕ → List ℕ) → length bs + left ≡ count
    → left_out count w bs f ≡ little_bytes 4 w
leave_end count left w bs f e =
    ap (λ (l : List ℕ). left_out count w l f) (sym (append-nil bs))
    ∙ leave_more count left w bs [] f e ∙ no_more left w f

-- the word is there
word_there : (w : ℕ) (held ys : List ℕ) (f : List ℕ → List ℕ) → 4 ≤ length held
    → little_number 4 held ≡ w → left_out 0 w (held ++ ys) f ≡ f (drop 4 held ++ ys)
word_there w held ys f h e =
    let long : nat_le 4 (length (held ++ ys)) ≡ true =
    grind (arith, nat_tests, length-append held ys, h) in
    let same : (little_number 4 (held ++ ys) == w) ≡ true =
    grind (arith, nat_tests, word-append held ys h, e) in
    rw (long, same) (ap f (drop-append-le 4 held ys h))

-- another word is there
word_other : (w : ℕ) (held ys : List ℕ) (f : List ℕ → List ℕ) → 4 ≤ length held
    → (little_number 4 held == w) ≡ false → left_out 0 w (held ++ ys) f ≡ little_bytes 4 w
word_other w held ys f h e =
    let long : nat_le 4 (length (held ++ ys)) ≡ true =
    grind (arith, nat_tests, length-append held ys, h) in
    rw (long, word-append held ys h, e) refl

-- ---- chunks that are kept

-- the bytes in front, and then those after them
take_more : (m : ℕ) (xs ys : List ℕ)
    → take m (xs ++ ys) ≡ take m xs ++ take (m - length xs) ys
take_more m xs ys = go (nat_le (length xs) m) refl
  where
    go : (t : Bool) → nat_le (length xs) m ≡ t
        → take m (xs ++ ys) ≡ take m xs ++ take (m - length xs) ys
    go true e =
        let near : length xs ≤ m = grind (arith, nat_tests) in
        ap (λ n. take n (xs ++ ys)) {x = m} {y = length xs + (m - length xs)}
        (omega (arith, near))
        ∙ take-append-add xs ys (m - length xs)
        ∙ ap (λ (l : List ℕ). l ++ take (m - length xs) ys) (sym (take_all m xs near))
    go false e =
        let far : m < length xs = grind (arith, nat_tests) in
        take-append-le m xs ys (omega (arith, far)) ∙ sym (append-nil (take m xs))
        ∙ ap (λ n. take m xs ++ take n ys) {x = 0} {y = m - length xs} (omega (arith, far))

pub more_twice : (kept bs zs : List ℕ)
    → with_more (with_more kept bs) zs ≡ with_more kept (bs ++ zs)
more_twice kept bs zs =
    let m = 100000 - length kept in
    let room : 100000 - length (kept ++ take m bs) ≡ m - length bs =
    omega (arith, length-append kept (take m bs), length-take m bs) in
    ap (λ n. (kept ++ take m bs) ++ take n zs) room
    ∙ append_assoc kept (take m bs) (take (m - length bs) zs)
    ∙ ap (λ (l : List ℕ). kept ++ l) (sym (take_more m bs zs))

pub more_none : (kept : List ℕ) → with_more kept [] ≡ kept
more_none kept =
    ap (λ (l : List ℕ). kept ++ l) (take-nil (100000 - length kept)) ∙ append-nil kept

-- as many bytes as there are, or as there is room for
pub more_min : (kept bs : List ℕ) (n : ℕ) → n ≡ min (length bs) (100000 - length kept)
    → kept ++ take n bs ≡ with_more kept bs
more_min kept bs n e = go (nat_le (100000 - length kept) (length bs)) refl
  where
    go : (t : Bool) → nat_le (100000 - length kept) (length bs) ≡ t
        → kept ++ take n bs ≡ with_more kept bs
    go true f =
        let far : 100000 - length kept ≤ length bs = grind (arith, nat_tests) in
        ap (λ k. kept ++ take k bs) {x = n} {y = 100000 - length kept} (omega (arith, e, far))
    go false f =
        let near : length bs < 100000 - length kept = grind (arith, nat_tests) in
        ap (λ (l : List ℕ). kept ++ l) (take_all n bs (omega (arith, e, near))
        ∙ sym (take_all (100000 - length kept) bs (omega (arith, near))))

less_test : (count left : ℕ) (bs ys : List ℕ) → length bs + left ≡ count
    → nat_lt (length (bs ++ ys)) count ≡ nat_lt (length ys) left
less_test count left bs ys e = go (nat_lt (length ys) left) refl
  where
    go : (t : Bool) → nat_lt (length ys) left ≡ t → nat_lt (length (bs ++ ys)) count ≡ t
    go true f = grind (arith, nat_tests, length-append bs ys)
    go false f = grind (arith, nat_tests, length-append bs ys)

-- some of the bytes to be kept were taken
pub keep_more : (count left : ℕ) (c : Chunk) (kept now bs ys : List ℕ)
    (f : Before → List ℕ → List ℕ) → length bs + left ≡ count
    → ((zs : List ℕ) → with_more now zs ≡ with_more kept (bs ++ zs))
    → kept_in count c kept (bs ++ ys) f ≡ kept_in left c now ys f
keep_more count left c kept now bs ys f e same =
    rw (
      less_test count left bs ys e,
      take_behind count left bs ys e,
      drop_behind count left bs ys e,
      same (take left ys),
    ) refl

-- the bytes end among those to be kept
pub keep_end : (count left : ℕ) (c : Chunk) (kept bs : List ℕ) (f : Before → List ℕ → List ℕ)
    → length bs + left ≡ count → 0 < left → kept_in count c kept bs f ≡ 0 ∷ []
keep_end count left c kept bs f e some =
    let few : nat_lt (length bs) count ≡ true = grind (arith, nat_tests) in
    rw (few) refl

-- no more bytes of the chunk are to be kept
pub keep_none : (c : Chunk) (kept xs : List ℕ) (f : Before → List ℕ → List ℕ)
    → kept_in 0 c kept xs f
    ≡ (if c.last then kept_block kept ++ f (after c.count) xs
    else f (record { chunk = c.count; kept = kept }) xs)
keep_none c kept xs f =
    let none : nat_lt (length xs) 0 ≡ false = grind (arith, nat_tests) in
    rw (none, more_none kept) refl

-- ---- what is left after each step

module _ (a b : Option (List ℕ)) (format : ImageFormat) (before : Before) where
  -- the next item was looked at
  pub looked_keeps : (out : List ℕ) (course : Course) (st : Step) (begun : Bool)
      → begun ≡ not (length before.kept == 0) → out ≡ [] → course ≡ Looking
      → Keeps a b → IfSome b (λ xs. st ≡ step_of format before.chunk begun (take 8 xs))
      → Keeps (option_map (λ xs. out ++ left_in course format before xs) a)
      (option_map (λ xs. by_step st before.kept xs (bytes_after format)) b)
  looked_keeps out course st begun i o c k h =
      rw (o, c) (go a b k (rw (i) at h))
    where
      go : (a b : Option (List ℕ)) → Keeps a b → IfSome b (λ xs. st ≡ looked format before xs)
          → Keeps (option_map (λ xs. bytes_after format before xs) a)
          (option_map (λ xs. by_step st before.kept xs (bytes_after format)) b)
      go None b k h = tt
      go (Some x) None k h = absurd k
      go (Some x) (Some y) k h =
          ap (λ z. by_step z before.kept y (bytes_after format)) h ∙ sym
          (first_item format before y)
          ∙ ap (λ z. bytes_after format before z) k

  -- some of the bytes to be left out were taken
  pub leaving_keeps : (out : List ℕ) (course : Course) (count left w : ℕ) (bs : List ℕ)
      → course ≡ Leaving count w → Consumes a b bs → length bs + left ≡ count
      → Keeps (option_map (λ xs. out ++ left_in course format before xs) a)
      (option_map (λ xs. out ++ left_in (Leaving left w) format before xs) b)
  leaving_keeps out course count left w bs c k e = rw (c) (taken_by a b bs
      (λ xs. out ++ left_in (Leaving count w) format before xs)
      (λ xs. out ++ left_in (Leaving left w) format before xs) k
      (λ ys. ap (λ z. out ++ z) (leave_more count left w bs ys (bytes_after format (after 0)) e)))

  -- the bytes end among those to be left out
  pub leaving_ends : (out : List ℕ) (course : Course) (count left w : ℕ) (bs : List ℕ)
      → out ≡ [] → course ≡ Leaving count w → Consumes a b bs → length bs + left ≡ count
      → IsAtEnd b → Keeps (option_map (λ xs. out ++ left_in course format before xs) a)
      (option_map (λ xs. little_bytes 4 w) b)
  leaving_ends out course count left w bs o c k e z = rw (o, c) (ended_by a b bs
      (λ xs. left_in (Leaving count w) format before xs) (λ xs. little_bytes 4 w) k z
      (leave_end count left w bs (bytes_after format (after 0)) e))

  -- the word was left out
  pub word_keeps : (out : List ℕ) (course : Course) (w : ℕ) (held : List ℕ) → out ≡ []
      → course ≡ Leaving 0 w → Keeps a (prepend_known held b) → 4 ≤ length held
      → little_number 4 held ≡ w
      → Keeps (option_map (λ xs. out ++ left_in course format before xs) a)
      (option_map (λ xs. out ++ left_in Looking format (after 0) xs) (prepend_known
      (drop 4 held) b))
  word_keeps out course w held o c k h e = rw (o, c) (go a b k)
    where
      go : (a b : Option (List ℕ)) → Keeps a (prepend_known held b)
          → Keeps (option_map (λ xs. left_in (Leaving 0 w) format before xs) a)
          (option_map (λ xs. left_in Looking format (after 0) xs) (prepend_known (drop 4 held) b))
      go None b k = tt
      go (Some x) None k = absurd k
      go (Some x) (Some y) k =
          sym (word_there w held y (bytes_after format (after 0)) h e)
          ∙ ap (λ z. left_out 0 w z (bytes_after format (after 0))) k

  -- another word is there
  pub other_ends : (out : List ℕ) (course : Course) (w : ℕ) (held : List ℕ) → out ≡ []
      → course ≡ Leaving 0 w → Keeps a (prepend_known held b) → 4 ≤ length held
      → (little_number 4 held == w) ≡ false
      → Keeps (option_map (λ xs. out ++ left_in course format before xs) a)
      (option_map (λ xs. little_bytes 4 w) (prepend_known held b))
  other_ends out course w held o c k h e = rw (o, c) (go a b k)
    where
      go : (a b : Option (List ℕ)) → Keeps a (prepend_known held b)
          → Keeps (option_map (λ xs. left_in (Leaving 0 w) format before xs) a)
          (option_map (λ xs. little_bytes 4 w) (prepend_known held b))
      go None b k = tt
      go (Some x) None k = absurd k
      go (Some x) (Some y) k =
          sym (word_other w held y (bytes_after format (after 0)) h e)
          ∙ ap (λ z. left_out 0 w z (bytes_after format (after 0))) k

  -- no word is there
  pub few_ends : (out : List ℕ) (course : Course) (w : ℕ) (held : List ℕ) → out ≡ []
      → course ≡ Leaving 0 w → Keeps a (prepend_known held b) → length held < 4 → IsAtEnd b
      → Keeps (option_map (λ xs. out ++ left_in course format before xs) a)
      (option_map (λ xs. little_bytes 4 w) (prepend_known held b))
  few_ends out course w held o c k h z = rw (o, c) (go a b k z)
    where
      go : (a b : Option (List ℕ)) → Keeps a (prepend_known held b) → IsAtEnd b
          → Keeps (option_map (λ xs. left_in (Leaving 0 w) format before xs) a)
          (option_map (λ xs. little_bytes 4 w) (prepend_known held b))
      go None b k z = tt
      go (Some x) None k z = absurd k
      go (Some x) (Some y) k z =
          let whole : held ++ y ≡ held = ap (λ (r : List ℕ). held ++ r) z ∙ append-nil held in
          sym (few_more w held (bytes_after format (after 0)) h)
          ∙ ap (λ l. left_out 0 w l (bytes_after format (after 0))) (sym whole ∙ k)

  -- some of the bytes to be given on were taken
  pub passing_gives : (out : List ℕ) (course : Course) (count left last : ℕ) (tail : Piece)
      (bs : List ℕ) → out ≡ []
      → course ≡ Passing (record { count = count; tail = tail; last = last }) → Consumes a b bs
      → length bs + left ≡ count
      → Consumes (option_map (λ xs. out ++ left_in course format before xs) a)
      (option_map (λ xs. out ++ left_in (Passing (record {
        count = left;
        tail = tail;
        last = last;
      })) format before xs) b) bs
  passing_gives out course count left last tail bs o c k e = rw (o, c) (given_by a b bs
      (left_in (Passing (record { count = count; tail = tail; last = last })) format before)
      (left_in (Passing (record { count = left; tail = tail; last = last })) format before) k
      (λ ys. pass_more count left tail last bs ys (bytes_after format before) e))

  -- there are no more bytes to be given on
  pub passing_ends : (out : List ℕ) (course : Course) (count last : ℕ) (tail : Piece)
      → course ≡ Passing (record { count = count; tail = tail; last = last })
      → Consumes a b [] → IsAtEnd b
      → Keeps (option_map (λ xs. out ++ left_in course format before xs) a)
      (option_map (λ xs. out ++ left_in (Passing (record {
        count = 0;
        tail = tail;
        last = last;
      })) format before xs) b)
  passing_ends out course count last tail c k z = rw (c) (ended_by a b []
      (λ xs. out ++ left_in (Passing (record { count = count; tail = tail; last = last }))
      format before xs)
      (λ xs. out ++ left_in (Passing (record { count = 0; tail = tail; last = last }))
      format before xs) k z
      (ap (λ (l : List ℕ). out ++ l) (end_more count tail last (bytes_after format before))))

-- the chunk before, by its parts
abbrev pub at_chunk : ℕ → List ℕ → Before
at_chunk n kept = record { chunk = n; kept = kept }

module _ (a b : Option (List ℕ)) (format : ImageFormat) (before : ℕ) where
  -- some of the bytes to be kept were taken
  pub keeping_keeps : (out kept now : List ℕ) (course : Course) (count left : ℕ) (c : Chunk)
      (bs : List ℕ) → course ≡ Keeping count c → Consumes a b bs → length bs + left ≡ count
      → ((zs : List ℕ) → with_more now zs ≡ with_more kept (bs ++ zs))
      → Keeps (option_map (λ xs. out ++ left_in course format (at_chunk before kept) xs) a)
      (option_map (λ xs. out ++ left_in (Keeping left c) format (at_chunk before now) xs) b)
  keeping_keeps out kept now course count left c bs e k n same = rw (e) (taken_by a b bs
      (λ xs. out ++ left_in (Keeping count c) format (at_chunk before kept) xs)
      (λ xs. out ++ left_in (Keeping left c) format (at_chunk before now) xs) k
      (λ ys. ap (λ z. out ++ z)
      (keep_more count left c kept now bs ys (bytes_after format) n same)))

  -- the bytes end among those to be kept
  pub keeping_ends : (out kept : List ℕ) (course : Course) (count left : ℕ) (c : Chunk)
      (bs : List ℕ) → out ≡ [] → course ≡ Keeping count c → Consumes a b bs
      → length bs + left ≡ count → 0 < left → IsAtEnd b
      → Keeps (option_map (λ xs. out ++ left_in course format (at_chunk before kept) xs) a)
      (option_map (λ xs. 0 ∷ []) b)
  keeping_ends out kept course count left c bs o e k n some z = rw (o, e) (ended_by a b bs
      (λ xs. left_in (Keeping count c) format (at_chunk before kept) xs)
      (λ xs. 0 ∷ []) k z
      (keep_end count left c kept bs (bytes_after format) n some))

-- bytes that are held are given on
pub out_gives : (a : Option (List ℕ)) (all front rest : List ℕ) (f : List ℕ → List ℕ)
    → all ≡ front ++ rest
    → Consumes (option_map (λ xs. all ++ f xs) a) (option_map (λ xs. rest ++ f xs) a) front
out_gives None all front rest f e = tt
out_gives (Some x) all front rest f e =
    ap (λ (r : List ℕ). r ++ f x) e ∙ append_assoc front rest (f x)

-- bytes that are held are dropped
pub held_drops : (a : Option (List ℕ)) (n : ℕ) (held front : List ℕ) (f : List ℕ → List ℕ)
    → n ≤ length held
    → option_map (λ xs. front ++ f xs) (prepend_known (drop n held) a)
    ≡ option_map (λ xs. front ++ f (drop n xs)) (prepend_known held a)
held_drops None n held front f h = refl
held_drops (Some x) n held front f h =
    ap (λ (l : List ℕ). Some (front ++ f l)) (sym (drop-append-le n held x h))

-- a chunk ends: with it a block that is too long
pub chunk_bad : (a : Option (List ℕ)) (format : ImageFormat) (before : ℕ) (out kept : List ℕ)
    (course : Course) (c : Chunk) → out ≡ [] → course ≡ Keeping 0 c → c.last ≡ true
    → 99999 < length kept
    → option_map (λ xs. written bad ++ bytes_after format (after c.count) xs) a
    ≡ option_map (λ xs. out ++ left_in course format (at_chunk before kept) xs) a
chunk_bad a format before out kept course c o e l far =
    let long : nat_lt 99999 (length kept) ≡ true = grind (arith, nat_tests) in
    rw (o, e) (maps_same a _ _ (λ xs. sym (keep_none c kept xs (bytes_after format)
    ∙ rw (l, long) refl)))

-- with it another block
pub chunk_block : (a : Option (List ℕ)) (format : ImageFormat) (before : ℕ) (out kept : List ℕ)
    (course : Course) (c : Chunk) → out ≡ [] → course ≡ Keeping 0 c → c.last ≡ true
    → length kept ≤ 99999
    → option_map (λ xs. little_bytes 4 (length kept) ++ (kept
    ++ (piece_bytes (word_behind (length kept)) ++ bytes_after format (after c.count) xs))) a
    ≡ option_map (λ xs. out ++ left_in course format (at_chunk before kept) xs) a
chunk_block a format before out kept course c o e l near =
    let short : nat_lt 99999 (length kept) ≡ false = grind (arith, nat_tests) in
    let n = length kept in
    rw (o, e) (maps_same a _ _ (λ xs. sym (keep_none c kept xs (bytes_after format)
    ∙ rw (l, short) (append_assoc (little_bytes 4 n) (kept ++ piece_bytes (word_behind n))
    (bytes_after format (after c.count) xs)
    ∙ ap (λ (r : List ℕ). little_bytes 4 n ++ r)
    (append_assoc kept (piece_bytes (word_behind n)) (bytes_after format (after c.count) xs))))))

-- the block continues
pub chunk_more : (a : Option (List ℕ)) (format : ImageFormat) (before : ℕ) (out kept : List ℕ)
    (course : Course) (c : Chunk) → out ≡ [] → course ≡ Keeping 0 c → c.last ≡ false
    → option_map (λ xs. out ++ bytes_after format (at_chunk c.count kept) xs) a
    ≡ option_map (λ xs. out ++ left_in course format (at_chunk before kept) xs) a
chunk_more a format before out kept course c o e l =
    rw (o, e) (maps_same a _ _ (λ xs. sym (keep_none c kept xs (bytes_after format)
    ∙ rw (l) refl)))

-- bytes that are kept are given on
pub kept_gives : (a : Option (List ℕ)) (format : ImageFormat) (before : ℕ) (out kept : List ℕ)
    (course : Course) (at n w : ℕ) (front : List ℕ) → out ≡ [] → course ≡ Giving at w
    → front ≡ take n (drop at kept)
    → Consumes (option_map (λ xs. out ++ left_in course format (at_chunk before kept) xs) a)
    (option_map (λ xs. out ++ left_in (Giving (at + n) w) format (at_chunk before kept) xs) a)
    front
kept_gives a format before out kept course at n w front o e f =
    let split : drop at kept ≡ front ++ drop (at + n) kept =
    sym (take-append-drop n (drop at kept))
    ∙ ap (λ (l : List ℕ). l ++ drop n (drop at kept)) (sym f)
    ∙ ap (λ (l : List ℕ). front ++ l) (drop-drop n at kept) in
    rw (o, e) (out_gives a (drop at kept) front (drop (at + n) kept)
    (λ xs. piece_bytes (word_behind w) ++ bytes_after format (after before) xs) split)

-- all bytes that are kept were given on
pub kept_ends : (a : Option (List ℕ)) (format : ImageFormat) (before : ℕ) (out kept : List ℕ)
    (course : Course) (at w : ℕ) → out ≡ [] → course ≡ Giving at w → length kept ≤ at
    → Keeps (option_map (λ xs. out ++ left_in course format (at_chunk before kept) xs) a)
    (option_map (λ xs. piece_bytes (word_behind w) ++ bytes_after format (after before) xs) a)
kept_ends a format before out kept course at w o e far =
    let none : drop at kept ≡ [] = drop_all at kept far in
    rw (o, e, none) (Keeps-refl _)

-- ---- tests

pub some_are : (n : ℕ) → (n == 0) ≡ false → 0 < n
some_are n e = grind (arith, nat_tests)

pub none_are : (xs : List ℕ) → (length xs == 0) ≡ true → xs ≡ []
none_are [] e = refl
none_are (x ∷ xs) e = grind (arith, nat_tests)
