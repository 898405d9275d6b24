-- The last word of an item.
use Rattle.std.proofs.Common.{◌≡◌, ℕ, ◌+◌, ◌-◌, ◌<◌, ◌%◌, ◌^◌, ◌==◌, if◌then◌else◌, List, [], ◌∷◌}
use Rattle.std.proofs.Common.{◌++◌, length, take, drop, Some, refl, sym, ap, subst, ◌∙◌, arith}
use Rattle.std.proofs.{Common.append_assoc, Common.append-nil, Common.length-append}
use Rattle.std.proofs.{lemmas.List.take_at, lemmas.List.drop_at, lemmas.Bool.Decides.nat_tests}
use Rattle.byteorder.specs.Endian.{little_number}
use Rattle.tape_image.specs.{Tape.TapeItem, Tape.block, Tape.bad, Tape.mark, Begins.front_word}
use Rattle.tape_image.specs.Spelling.{item_of, IsSpelling, IsFramed, a_mark, a_gap, a_block}
use Rattle.tape_image.specs.{Word.block_len, Word.block_extent, Step.TakesItem}
use Rattle.tape_image.proofs.Words.{word_in_front, block_len-bounds}
use Rattle.tape_c.specs.{declared.items.Entry.Entry, Items.IsLength, Items.Enters, Items.last_entry}
use Rattle.tape_c.specs.Items.{kind_number}

low_bits : (w n : ℕ) → block_len w ≡ Some n → w % 2 ^ 24 ≡ n
low_bits w n e = grind arith

-- an entry with this length describes a block with this first word
is_length : (item : TapeItem) (w word n : ℕ) (content : List ℕ) → item ≡ item_of w content
    → block_len word ≡ Some n → IsLength item word n
is_length (block bytes) w word n content e len = len
is_length bad w word n content e len = len
is_length mark w word n content e len = absurd (grind arith)

-- the length that the last word gives, and the number of bytes of the item
pub record Trailed (s : List ℕ) (item : TapeItem) (n : ℕ) : Type 0 where
  pub size : length s ≡ (if n == 0 then 4 else block_extent n)
  pub long : IsLength item (front_word s) n

of_mark : (s : List ℕ) (item : TapeItem) (n : ℕ) → item ≡ mark → length s ≡ 4 → n ≡ 0
    → Trailed s item n
of_mark s (block bytes) n e four none = absurd (cc e)
of_mark s bad n e four none = absurd (cc e)
of_mark s mark n e four none = rw none (record { size = four; long = refl })

of_block : (s content : List ℕ) (item : TapeItem) (w n : ℕ) → item ≡ item_of w content
    → block_len w ≡ Some (length content) → IsFramed s w content → n ≡ length content
    → Trailed s item n
of_block s content item w n e len f same =
    let some = (block_len-bounds w (length content) len).0 in
    let front : front_word s ≡ w =
    ap (little_number 4) f.whole ∙ word_in_front f.lead (content ++ (f.pad ++ f.trail)) w f.lead_is
    in
    let extent : length s ≡ block_extent n =
    omega (
      arith,
      same,
      ap length f.whole,
      length-append f.lead (content ++ (f.pad ++ f.trail)),
      length-append content (f.pad ++ f.trail),
      length-append f.pad f.trail,
      f.lead_is.four,
      f.pad_is,
      f.trail_is.four,
    ) in
    let positive : 0 < n = omega (arith, same, some) in
    record {
      size = grind (arith, nat_tests);
      long = is_length item w (front_word s) n content e (ap block_len front ∙ len
          ∙ ap Some (sym same));
    }

-- the last four bytes
last_four : (bytes front tail : List ℕ) → bytes ≡ front ++ tail → length tail ≡ 4
    → drop (length bytes - 4) bytes ≡ tail
last_four bytes front tail e four =
    let size : length front ≡ length bytes - 4 =
    omega (arith, ap length e, length-append front tail, four) in
    ap (drop (length bytes - 4)) e ∙ drop_at front tail (length bytes - 4) size

first_item : (item other : TapeItem) → item ∷ [] ≡ other ∷ [] → item ≡ other
first_item item other e = cc e

pub trailed : (before s : List ℕ) (item : TapeItem) → IsSpelling s (item ∷ [])
    → Trailed s item
    (little_number 4 (drop (length (before ++ s) - 4) (before ++ s)) % 2 ^ 24)
trailed before s item (a_mark is e) =
    let word : little_number 4 (drop (length (before ++ s) - 4) (before ++ s)) ≡ 0 =
    ap (little_number 4) (last_four (before ++ s) before s refl is.four) ∙ is.value in
    of_mark s item _ (first_item item mark e) is.four (ap (λ (w : ℕ). w % 2 ^ 24) word)
trailed before s item (a_gap is e) = absurd (cc e)
trailed before s item (a_block w content len f e) =
    let cut : before ++ s ≡ (before ++ (f.lead ++ (content ++ f.pad))) ++ f.trail =
    ap (λ (r : List ℕ). before ++ r) f.whole ∙ simp append_assoc in
    let word : little_number 4 (drop (length (before ++ s) - 4) (before ++ s)) ≡ w =
    ap (little_number 4) (last_four (before ++ s) (before ++ (f.lead ++ (content ++ f.pad)))
    f.trail cut f.trail_is.four) ∙ f.trail_is.value in
    of_block s content item w _ (first_item item (item_of w content) e) len f
    (ap (λ (v : ℕ). v % 2 ^ 24) word ∙ low_bits w (length content) len)

-- the entry that is made from the bytes up to the end of an item describes it
pub entered : (p q kind : ℕ) (item : TapeItem) (all front xs ys : List ℕ) → all ≡ front ++ xs
    → length front ≡ p → TakesItem p item q xs ys → kind ≡ kind_number item
    → Enters p item (last_entry (take q all) kind) q xs ys
entered p q kind item all front xs ys whole size t is =
    let before = front ++ t.gaps in
    let cut : all ≡ (before ++ t.spelling) ++ ys =
    whole ∙ ap (λ (r : List ℕ). front ++ r) t.whole ∙ simp append_assoc in
    let count : length (before ++ t.spelling) ≡ q =
    omega (
      arith,
      t.place,
      size,
      length-append before t.spelling,
      length-append front t.gaps,
    ) in
    let read : take q all ≡ before ++ t.spelling =
    ap (take q) cut ∙ take_at (before ++ t.spelling) ys q count in
    let last = trailed before t.spelling item t.spelled in
    rw read (record {
      takes = t;
      kind = is;
      place = omega (
        arith,
        last.size,
        length-append before t.spelling,
        length-append front t.gaps,
        size,
      );
      long = last.long;
    })
