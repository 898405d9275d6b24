-- An image of items that are their own normal form keeps its bytes wherever it is cut off.
use Rattle.std.proofs.Common.{◌≡◌, ℕ, ◌+◌, ◌-◌, ◌≤◌, ◌<◌, ◌⊎◌, inl, inr, Bool, true, false, nat_lt}
use Rattle.std.proofs.Common.{List, [], ◌∷◌, ◌++◌, length, take, drop, Option, Some, None}
use Rattle.std.proofs.Common.{refl, sym, ap, subst, ◌∙◌, arith, append_assoc, append-nil}
use Rattle.std.proofs.Common.{length-append, ◌&&◌}
use lib.Seq.{take-append-le, take_all}
use Rattle.std.proofs.lemmas.List.{take-append-drop, length-take}
use Rattle.std.proofs.lemmas.{Bool.Decides.nat_tests}
use Rattle.std.proofs.Math.Seq.{take-append-add}
use Rattle.std.proofs.Math.ListN.{drop_of_length-le}
use Rattle.byteorder.specs.{Endian.little_number}
use Rattle.tape_image.proofs.Words.{word-append}
use Rattle.tape_image.specs.Tape.{TapeItem, block}
use Rattle.tape_image.specs.Spelling.{IsSpelling, Spelling, EndsHere, IsFramed, item_of}
use Rattle.tape_image.specs.Spelling.{a_mark, a_gap, a_block}
use Rattle.tape_image.specs.declared.item.Ending.{Ending}
use Rattle.tape_image.specs.declared.item.Ending.TheVariants.{Marked, Physical}
use Rattle.tape_image.specs.Word.{block_len, block_extent, longest_block}
use Rattle.tape_image.specs.Begins.{image_limit}
use Rattle.tape_set.specs.{Layout.FileSet, Lawful.IsLawful}
use Rattle.tape_core.specs.declared.normal.machine.{TapePlace.TapePlace, Change.Change}
use Rattle.tape_core.specs.declared.normal.machine.{Replacement.Replacement}
use Rattle.tape_core.specs.declared.normal.machine.TapePlace.TheVariants.{Start}
use Rattle.tape_core.specs.declared.normal.machine.Replacement.TheVariants.{Same, Dropped, Label}
use Rattle.tape_core.specs.declared.normal.looking.Looked.{Looked}
use Rattle.tape_core.specs.NormalForm.{normal, Codes.is_label_length}
use Rattle.tape_core.specs.NormalForm.Steps.{step_of, from, inserted}
use Rattle.tape_core.specs.NormalForm.Bytes.{looked, looked_word, looked_block, by_looked}
use Rattle.tape_core.specs.NormalForm.Bytes.{normal_from, normal_bytes, is_over, reads_labels}
use Rattle.tape_core.specs.NormalForm.Bytes.{begins_label, block_step, unlabelled_instead}
use Rattle.tape_core.specs.NormalForm.Laws.{CutBytesKept, CopyCutBytesKept}
use Rattle.tape_core.proofs.NormalForm.{Same.normal_keeps, Giving.over_left}
use Rattle.tape_core.proofs.NormalForm.Giving.{label_word}
use Rattle.tape_core.proofs.NormalForm.Enough.{first_item, looked_short, is_less}
use Rattle.tape_core.proofs.NormalForm.LookedAt.{looked_is, len_is, other_step, within_is, no_mark}
use Rattle.tape_core.proofs.NormalForm.LookedAt.{no_gap, framed_size, framed_word, seen}
use Rattle.tape_core.proofs.NormalForm.Spelled.{bytes_of, items_of, end_left, over_is}
use Rattle.tape_core.proofs.NormalForm.Kept.{first_kept, Stays, stays}

-- ---- bytes that end inside an encoding

and_right : (a b : Bool) → (a && b) ≡ true → b ≡ true
and_right true b e = e
and_right false b e = absurd (cc e)

label_few : (w : ℕ) → is_label_length w ≡ true → w ≤ 99999
label_few w e = grind (arith, nat_tests)

-- nothing is looked at
kept_by_none : (room : ℕ) (place : TapePlace) (xs : List ℕ) → looked room place xs ≡ None
    → normal_from room place xs ≡ xs
kept_by_none room place xs e =
    first_item room place xs
    ∙ ap (λ (o : Option Looked). by_looked o room xs normal_from) e

-- no label replaces a block that is not one by its length
no_label : (r : Replacement) (text : List ℕ) → unlabelled_instead r ≡ Label text → ⊥
no_label Same text e = cc e
no_label Dropped text e = cc e
no_label (Label other) text e = cc e

block_no_label : (place : TapePlace) (w n : ℕ) (text : List ℕ)
    → (block_step place w n).1.instead ≡ Label text → ⊥
block_no_label place w n text e = go (nat_lt longest_block w) refl
  where
    go : (t : Bool) → nat_lt longest_block w ≡ t → ⊥
    go true f = no_label _ text (rw (f) at e)
    go false f = no_label _ text (rw (f) at e)

-- a block that stays, and of which the image has only a part
part_same : (room size : ℕ) (xs : List ℕ) (step : TapePlace × Change)
    → inserted step.1.missing ≡ [] → step.1.instead ≡ Same → length xs ≤ size
    → by_looked (seen size step) room xs normal_from ≡ xs
part_same room size xs step i s h =
    rw (i, s, take_all size xs h, drop_of_length-le xs h) (append-nil xs)

module _ (room : ℕ) (place : TapePlace) (o : is_over place ≡ false) (bytes : List ℕ)
    (h : length bytes ≤ room) (w : ℕ) (content : List ℕ) (len : block_len w ≡ Some (length content))
    (f : IsFramed bytes w content) (m : ℕ) (few : m < length bytes) (four : 4 ≤ m) where
  abbrev part : List ℕ
  part = take m bytes

  part_size : length part ≡ m
  part_size = length-take m bytes ∙ omega (arith, few)

  part_word : little_number 4 part ≡ w
  part_word =
      sym (word-append part (drop m bytes) (omega (arith, part_size, four)))
      ∙ ap (little_number 4) (take-append-drop m bytes ∙ sym (append-nil bytes))
      ∙ framed_word bytes [] w content f

  size : length bytes ≡ block_extent (length content)
  size = framed_size bytes w content f

  at_word : looked room place part ≡ looked_word room place w part
  at_word = looked_is room place part w o (omega (arith, part_size, four)) part_word

  begins : begins_label place part ≡ (reads_labels place && is_label_length w)
  begins = ap (λ v. reads_labels place && is_label_length v) part_word

  -- a label is not looked at
  label_part : (reads_labels place && is_label_length w) ≡ true → normal_from room place part ≡ part
  label_part b =
      let is : is_label_length w ≡ true = and_right (reads_labels place) (is_label_length w) b in
      let good : w ≤ 99999 = label_few w is in
      let n : length content ≡ w = len_is w (length content) len good in
      let short : nat_lt (length part) (block_extent w) ≡ true =
      is_less (length part) (block_extent w) (omega (arith, part_size, few, size, n)) in
      kept_by_none room place part (at_word
      ∙ rw ((label_word w is).0, (label_word w is).1, begins, b, short) refl)

  -- any other block stays
  block_part : (reads_labels place && is_label_length w) ≡ false → (rest : List TapeItem)
      → Stays place (item_of w content) rest → normal_from room place part ≡ part
  block_part b rest st =
      let n = length content in
      let step = block_step place w n in
      let same : step ≡ step_of place (item_of w content) = other_step place w content len b in
      let look : looked room place part ≡ seen (block_extent n) step =
      at_word ∙ rw (no_mark w n len, no_gap w n len, begins, b)
      (ap (looked_block room place w) len
      ∙ within_is room (block_extent n) step (omega (arith, h, size))) in
      first_item room place part
      ∙ ap (λ (q : Option Looked). by_looked q room part normal_from) look
      ∙ part_same room (block_extent n) part step
      (ap (λ (v : TapePlace × Change). inserted v.1.missing) same ∙ st.none)
      (instead_is step same st.is) (omega (arith, part_size, few, size))
    where
      instead_is : (step : TapePlace × Change) → step ≡ step_of place (item_of w content)
          → ((step_of place (item_of w content)).1.instead ≡ Same)
          ⊎ ((text : List ℕ) × ((step_of place (item_of w content)).1.instead ≡ Label text)
          × (item_of w content ≡ block text))
          → step.1.instead ≡ Same
      instead_is step e (inl q) = ap (λ (v : TapePlace × Change). v.1.instead) e ∙ q
      instead_is step e (inr (text, q, i)) =
          absurd (block_no_label place w (length content) text
          (ap (λ (v : TapePlace × Change). v.1.instead) (other_step place w content len b) ∙ q))

  framed_part : (rest : List TapeItem) → Stays place (item_of w content) rest
      → normal_from room place part ≡ part
  framed_part rest st = go (reads_labels place && is_label_length w) refl
    where
      go : (t : Bool) → (reads_labels place && is_label_length w) ≡ t
          → normal_from room place part ≡ part
      go true b = label_part b
      go false b = block_part b rest st

few_kept : (room : ℕ) (place : TapePlace) (xs : List ℕ) → length xs < 4
    → normal_from room place xs ≡ xs
few_kept room place xs h = kept_by_none room place xs
    (looked_short room place xs (is_less (length xs) 4 h))

-- the first bytes of an encoding of an item that stays
part_kept : (s : Spelling) (ss : List Spelling) (room : ℕ) (place : TapePlace) (m : ℕ)
    → length s.bytes ≤ room → is_over place ≡ false
    → from place (items_of (s ∷ ss)) ≡ items_of (s ∷ ss) → m < length s.bytes
    → normal_from room place (take m s.bytes) ≡ take m s.bytes
part_kept s ss room place m h o k few = go (nat_lt m 4) refl
  where
    short : length (take m s.bytes) ≡ m
    short = length-take m s.bytes ∙ omega (arith, few)

    by_spelling : 4 ≤ m → (bytes : List ℕ) (given' : List TapeItem) → IsSpelling bytes given'
        → length bytes ≤ room → m < length bytes
        → from place (given' ++ items_of ss) ≡ given' ++ items_of ss
        → normal_from room place (take m bytes) ≡ take m bytes
    by_spelling four bytes given' (a_mark is e) h n k = absurd (omega (arith, four, n, is.four))
    by_spelling four bytes given' (a_gap is e) h n k = absurd (omega (arith, four, n, is.four))
    by_spelling four bytes given' (a_block w content len f e) h n k =
        let x = item_of w content in
        let j : from place (x ∷ items_of ss) ≡ x ∷ items_of ss = subst
        (λ (l : List TapeItem). from place (l ++ items_of ss) ≡ l ++ items_of ss) e k in
        framed_part room place o bytes h w content len f m n four (items_of ss)
        (stays place x (items_of ss) j)

    go : (t : Bool) → nat_lt m 4 ≡ t → normal_from room place (take m s.bytes) ≡ take m s.bytes
    go true e =
        let less : m < 4 = grind (arith, nat_tests) in
        few_kept room place (take m s.bytes) (omega (arith, short, less))
    go false e =
        let four : 4 ≤ m = grind (arith, nat_tests) in
        by_spelling four s.bytes s.given s.spelled h few k

-- ---- all bytes

-- the end of the medium, and what follows it
end_cut : (room : ℕ) (place : TapePlace) (rest : List ℕ) (ending : Ending) (m : ℕ)
    → EndsHere ending rest → normal_from room place (take m rest) ≡ take m rest
end_cut room place rest Physical m e =
    let none : take m rest ≡ [] = ap (take m) e ∙ take_all m [] (omega arith) in
    rw (none) refl
end_cut room place rest Marked m e = go (nat_lt m 4) refl
  where
    go : (t : Bool) → nat_lt m 4 ≡ t → normal_from room place (take m rest) ≡ take m rest
    go true f =
        let less : m < 4 = grind (arith, nat_tests) in
        few_kept room place (take m rest) (omega (arith, length-take m rest, less))
    go false f =
        let four : 4 ≤ m = grind (arith, nat_tests) in
        let long : 4 ≤ length (take m rest) = omega (arith, length-take m rest, four, e.0) in
        end_left room place (take m rest) Marked (
          long,
          sym (word-append (take m rest) (drop m rest) long)
              ∙ ap (little_number 4) (take-append-drop m rest) ∙ e.1,
        )

cut_from : (ss : List Spelling) (room : ℕ) (place : TapePlace) (rest : List ℕ) (ending : Ending)
    (m : ℕ) → length (bytes_of ss ++ rest) ≤ room → EndsHere ending rest
    → from place (items_of ss) ≡ items_of ss
    → normal_from room place (take m (bytes_of ss ++ rest)) ≡ take m (bytes_of ss ++ rest)
cut_from [] room place rest ending m h e k = end_cut room place rest ending m e
cut_from (s ∷ ss) room place rest ending m h e k =
    rw (append_assoc s.bytes (bytes_of ss) rest) (go (is_over place) (nat_lt m (length s.bytes))
    refl refl (λ next left l. cut_from ss (room - length s.bytes) next rest ending left
    (omega (
      arith,
      h,
      ap length (append_assoc s.bytes (bytes_of ss) rest),
      length-append s.bytes (bytes_of ss ++ rest),
    )) e l))
  where
    more : List ℕ
    more = bytes_of ss ++ rest

    long : length s.bytes + length more ≤ room
    long = omega (
      arith,
      h,
      ap length (append_assoc s.bytes (bytes_of ss) rest),
      length-append s.bytes more,
    )

    go : (o t : Bool) → is_over place ≡ o → nat_lt m (length s.bytes) ≡ t
        → ((next : TapePlace) (left : ℕ) → from next (items_of ss) ≡ items_of ss
        → normal_from (room - length s.bytes) next (take left more) ≡ take left more)
        → normal_from room place (take m (s.bytes ++ more)) ≡ take m (s.bytes ++ more)
    go true t o f ih =
        let all : List ℕ = take m (s.bytes ++ more) in
        subst (λ q. normal_from room q all ≡ all) (over_is place o) (over_left room all)
    go false true o f ih =
        let few : m < length s.bytes = grind (arith, nat_tests) in
        rw (take-append-le m s.bytes more (omega (arith, few)))
        (part_kept s ss room place m (omega (arith, long)) o k few)
    go false false o f ih =
        let enough : length s.bytes ≤ m = grind (arith, nat_tests) in
        let left : ℕ = m - length s.bytes in
        let whole : take m (s.bytes ++ more) ≡ s.bytes ++ take left more =
        ap (λ n. take n (s.bytes ++ more)) {x = m} {y = length s.bytes + left}
        (omega (arith, enough)) ∙ take-append-add s.bytes more left in
        let fits : length (take left more) ≤ length more = omega (arith, length-take left more) in
        rw (whole) (first_kept s ss room place (take left more)
        (omega (arith, long, fits, length-append s.bytes (take left more))) k false o
        (λ next l. ih next left l))

pub cut_bytes_kept : CutBytesKept
cut_bytes_kept xs items m h s k =
    let all = cut_from s.leads.spellings image_limit (Start 0) s.rest s.ending m
    (subst (λ (l : List ℕ). length l ≤ image_limit) s.leads.whole h) s.ended
    (subst (λ (l : List TapeItem). normal l ≡ l) s.leads.items_are k) in
    ap (λ (l : List ℕ). normal_bytes (take m l)) s.leads.whole ∙ all
    ∙ ap (λ (l : List ℕ). take m l) (sym s.leads.whole)

pub copy_cut_bytes_kept : (set : FileSet) → IsLawful set → CopyCutBytesKept set
copy_cut_bytes_kept set lawful k good xs m h s =
    cut_bytes_kept xs _ m h s (normal_keeps set lawful k good)
