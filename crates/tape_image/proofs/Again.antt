-- Each place at which items begin again begins an item.
use Rattle.std.proofs.Common.{◌≡◌, ◌⊎◌, inl, inr, ℕ, zero, suc, ◌+◌, ◌-◌, ◌%◌, ◌≤◌, ◌&&◌, ◌||◌}
use Rattle.std.proofs.Common.{◌==◌, Bool, true, false, min, nat_le, nat_lt, if◌then◌else◌, List}
use Rattle.std.proofs.Common.{◌∷◌, [], ◌++◌, length, take, drop, Option, None, Some, refl, sym, ap}
use Rattle.std.proofs.Common.{◌∙◌, arith, length-append, length-drop, append_assoc, take-append-drop}
use Rattle.std.proofs.lemmas.Bool.Decides.{nat_tests}
use Rattle.std.proofs.lemmas.List.{length-take, length-take-le, drop-append-le}
use Rattle.byteorder.specs.Endian.{little_number}
use Rattle.tape_image.specs.{Tape.mark, Word.IsWord}
use Rattle.tape_image.specs.Word.{mark_word, gap_word, end_word, block_len, block_extent}
use Rattle.tape_image.specs.Word.{longest_block}
use Rattle.tape_image.specs.Spelling.{item_of, a_mark, a_block}
use Rattle.tape_image.specs.Resync.{same_words, whole_of, whole_block, continues_after}
use Rattle.tape_image.specs.Resync.{begins_again, again_behind, place_from, found, behind_block}
use Rattle.tape_image.specs.Resync.{behind_word, place_again, window, items_again}
use Rattle.tape_image.specs.ResyncLaws.{BeginsItem, PlacesBeginItems}
use Rattle.tape_image.proofs.Existence.{word-take, framed_at}
use Rattle.tape_image.proofs.Spellings.{spelling_long}

-- which of two places a test chose
chosen : {G : Type 0} → (t : Bool) (a b : Option ℕ) (n : ℕ) → (if t then a else b) ≡ Some n
    → (t ≡ true → a ≡ Some n → G) → (t ≡ false → b ≡ Some n → G) → G
chosen true a b n e f g = f refl e
chosen false a b n e f g = g refl e

-- a block whose words are equal
framed_item : (xs : List ℕ) (m : ℕ) → 4 ≤ length xs → block_len (little_number 4 xs) ≡ Some m
    → block_extent m ≤ length xs → same_words (block_extent m) xs ≡ true → BeginsItem xs
framed_item xs m four len fits same =
    let w = little_number 4 xs in
    let content = take m (drop 4 xs) in
    let size : length content ≡ m =
    length-take-le m (drop 4 xs) (omega (arith, length-drop 4 xs, fits)) in
    let equal : little_number 4 (drop (block_extent m - 4) xs) ≡ w = grind (arith, nat_tests) in
    let trail : little_number 4 (drop (4 + m + m % 2) xs) ≡ w =
    ap (λ k. little_number 4 (drop k xs)) {x = 4 + m + m % 2} {y = block_extent m - 4}
    (omega arith) ∙ equal in
    record {
      bytes = take (block_extent m) xs;
      given = item_of w content ∷ [];
      rest = drop (block_extent m) xs;
      spelled =
          a_block w content (len ∙ ap Some (sym size)) (framed_at xs w m fits refl trail) refl;
      whole = sym (take-append-drop (block_extent m) xs);
    }

whole_in : (o : Option ℕ) (xs : List ℕ) (n : ℕ) → 4 ≤ length xs
    → block_len (little_number 4 xs) ≡ o → whole_of o xs ≡ Some n → BeginsItem xs
whole_in None xs n four len e = absurd (cc e)
whole_in (Some m) xs n four len e =
    chosen (nat_lt longest_block m || nat_lt (length xs) (block_extent m)) None
    (if same_words (block_extent m) xs then Some (block_extent m) else None) n e
    (λ t none. absurd (cc none))
    (λ t f. chosen (same_words (block_extent m) xs) (Some (block_extent m)) None n f
    (λ same g. framed_item xs m four len (grind (arith, nat_tests)) same)
    (λ other none. absurd (cc none)))

whole_item : (xs : List ℕ) (n : ℕ) → whole_block xs ≡ Some n → BeginsItem xs
whole_item xs n e =
    chosen (nat_lt (length xs) 4) None (whole_of (block_len (little_number 4 xs)) xs) n e
    (λ t none. absurd (cc none))
    (λ t f. whole_in (block_len (little_number 4 xs)) xs n (grind (arith, nat_tests)) refl f)

again_item : (xs : List ℕ) → begins_again xs ≡ true → BeginsItem xs
again_item xs e = go (whole_block xs) refl e
  where
    go : (o : Option ℕ) → whole_block xs ≡ o → continues_after o xs ≡ true → BeginsItem xs
    go None w t = absurd (cc t)
    go (Some n) w t = whole_item xs n w

behind_item : (xs : List ℕ) → again_behind xs ≡ true → BeginsItem xs
behind_item xs e = go (nat_le 4 (length xs) && (little_number 4 xs == mark_word)) refl e
  where
    go : (t : Bool) → (nat_le 4 (length xs) && (little_number 4 xs == mark_word)) ≡ t
        → (if t then begins_again (drop 4 xs) else begins_again xs) ≡ true → BeginsItem xs
    go true t k =
        let four : 4 ≤ length xs = grind (arith, nat_tests) in
        let is : little_number 4 xs ≡ mark_word = grind (arith, nat_tests) in
        record {
          bytes = take 4 xs;
          given = mark ∷ [];
          rest = drop 4 xs;
          spelled = a_mark (word-take xs mark_word four is) refl;
          whole = sym (take-append-drop 4 xs);
        }
    go false t k = again_item xs k

-- a place in what is looked at
abbrev IsPlace : List ℕ → ℕ → Type 0
IsPlace xs n = (1 ≤ n) × BeginsItem (drop n xs)

from_item : (at k : ℕ) (xs : List ℕ) (n : ℕ) → 1 ≤ at → place_from at k xs ≡ Some n
    → IsPlace xs n
from_item at zero xs n h e = absurd (cc e)
from_item at (suc k) xs n h e =
    chosen (begins_again (drop at xs)) (Some at) (place_from (suc at) k xs) n e
    (λ t same. let is : at ≡ n = cc same in rw (sym is) (h, again_item (drop at xs) t))
    (λ t f. from_item (suc at) k xs n (omega arith) f)

found_item : (xs : List ℕ) (n : ℕ) → found xs ≡ Some n → IsPlace xs n
found_item xs n e = from_item 1 (min (length xs) 262144 - 1) xs n (omega arith) e

block_item : (size : ℕ) (xs : List ℕ) (n : ℕ) → 1 ≤ size → behind_block size xs ≡ Some n
    → IsPlace xs n
block_item size xs n some e =
    chosen (nat_lt (length xs) size) None (if same_words size xs then None
    else if again_behind (drop size xs) then Some size else found xs) n e
    (λ t none. absurd (cc none))
    (λ t f. chosen (same_words size xs) None
    (if again_behind (drop size xs) then Some size else found xs) n f
    (λ t none. absurd (cc none))
    (λ t g. chosen (again_behind (drop size xs)) (Some size) (found xs) n g
    (λ t same. let is : size ≡ n = cc same in rw (sym is) (some, behind_item (drop size xs) t))
    (λ t h. found_item xs n h)))

word_item : (o : Option ℕ) (w : ℕ) (xs : List ℕ) (n : ℕ) → behind_word o w xs ≡ Some n
    → IsPlace xs n
word_item None w xs n e =
    chosen ((w == mark_word) || ((w == gap_word) || (w == end_word))) None (found xs) n e
    (λ t none. absurd (cc none))
    (λ t f. found_item xs n f)
word_item (Some m) w xs n e = block_item (block_extent m) xs n (omega arith) e

place_item : (xs : List ℕ) (n : ℕ) → place_again xs ≡ Some n → IsPlace xs n
place_item xs n e =
    let w = little_number 4 xs in
    chosen (nat_lt (length xs) 4) None (behind_word (block_len w) w xs) n e
    (λ t none. absurd (cc none))
    (λ t f. word_item (block_len w) w xs n f)

-- what begins an item in a part begins it in the whole
part_item : (xs ys : List ℕ) (n : ℕ) → IsPlace xs n
    → (1 ≤ n) × (n ≤ length (xs ++ ys)) × BeginsItem (drop n (xs ++ ys))
part_item xs ys n (some, b) =
    let long : length (drop n xs) ≡ length b.bytes + length b.rest =
    ap length b.whole ∙ length-append b.bytes b.rest in
    let four : 4 ≤ length b.bytes = spelling_long b.bytes b.given b.spelled in
    let within : n ≤ length xs = omega (arith, long, four, length-drop n xs) in (
      some,
      omega (arith, within, length-append xs ys),
      record {
        bytes = b.bytes;
        given = b.given;
        rest = b.rest ++ ys;
        spelled = b.spelled;
        whole =
            drop-append-le n xs ys within ∙ ap (λ (l : List ℕ). l ++ ys) b.whole
            ∙ append_assoc b.bytes b.rest ys;
      },
    )

pub places_begin_items : PlacesBeginItems
places_begin_items xs n e =
    let all : take window xs ++ drop window xs ≡ xs = take-append-drop window xs in
    rw (sym all) (part_item (take window xs) (drop window xs) n (place_item (take window xs) n e))
