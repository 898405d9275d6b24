-- What is looked at in an encoding of an item.
use Rattle.std.proofs.Common.{◌≡◌, ℕ, ◌+◌, ◌≤◌, ◌%◌, Bool, true, false, ◌==◌, ◌&&◌}
use Rattle.std.proofs.Common.{nat_lt, min}
use Rattle.std.proofs.Common.{nat_le, List, [], ◌∷◌, ◌++◌, length, take, drop, replicate, Option}
use Rattle.std.proofs.Common.{Some, None}
use Rattle.std.proofs.Common.{refl, sym, ap, ◌∙◌, arith, append_assoc}
use Rattle.std.proofs.Common.{length-append, drop_at}
use lib.Seq.{take_at, take_all, drop-drop}
use Rattle.std.proofs.Common.{◌-◌, length-drop}
use Rattle.std.proofs.Common.{◌<◌}
use Rattle.std.proofs.lemmas.{Bool.Decides.nat_tests, List.length-take}
use Rattle.byteorder.specs.{Endian.little_number}
use Rattle.tape_image.specs.Tape.{TapeItem, block, mark}
use Rattle.tape_image.specs.Spelling.{IsSpelling, a_mark, a_gap, a_block, IsFramed, item_of}
use Rattle.tape_image.specs.Word.{mark_word, gap_word, block_len, block_extent}
use Rattle.tape_image.specs.Word.{longest_block}
use Rattle.tape_image.proofs.Words.{word_in_front, block_len-bounds}
use Rattle.tape_core.specs.declared.normal.machine.{TapePlace.TapePlace, Change.Change}
use Rattle.tape_core.specs.declared.normal.machine.TapePlace.TheVariants as places
use Rattle.tape_core.specs.declared.normal.looking.Looked.{Looked}
use Rattle.tape_core.specs.NormalForm.{is_noise, Codes.is_label_length}
use Rattle.tape_core.specs.NormalForm.Steps.{step_of, same, given}
use Rattle.tape_core.specs.NormalForm.Bytes.{looked, looked_word, looked_label, looked_block}
use Rattle.tape_core.specs.NormalForm.Bytes.{within}
use Rattle.tape_core.specs.NormalForm.Bytes.{is_over, begins_label, reads_labels, block_step}
use Rattle.tape_core.specs.NormalForm.Bytes.{unlabelled}
use Rattle.tape_core.proofs.NormalForm.Enough.{no_less}
use Rattle.tape_core.proofs.NormalForm.Plain.{plain_of, plain_step, plain_unlabelled}
use Rattle.tape_core.proofs.NormalForm.Plain.{bad_unlabelled}

-- ---- one encoding is looked at

-- what the machine does with what an encoding gives
abbrev pub stepped : TapePlace → List TapeItem → TapePlace × Change
stepped place [] = (place, same)
stepped place (x ∷ xs) = step_of place x

abbrev pub seen : ℕ → TapePlace × Change → Option Looked
seen size step = Some (record { size = size; next = step.0; change = step.1 })

pub within_is : (room size : ℕ) (step : TapePlace × Change) → size ≤ room
    → within room size step ≡ seen size step
within_is room size step h = rw (no_less room size h) refl

pub looked_is : (room : ℕ) (place : TapePlace) (xs : List ℕ) (w : ℕ) → is_over place ≡ false
    → 4 ≤ length xs → little_number 4 xs ≡ w → looked room place xs ≡ looked_word room place w xs
looked_is room place xs w o h e =
    rw (o, no_less (length xs) 4 h) (ap (λ v. looked_word room place v xs) e)

noise_same : (n m : ℕ) → m ≡ min n 121 → nat_lt m 14 ≡ nat_lt n 14
noise_same n m e = grind (arith, nat_tests)

-- nor is what is shown of it
shown_no : (n m : ℕ) → m ≡ min n 121 → is_label_length n ≡ false → is_label_length m ≡ false
shown_no n m e f = grind (arith, nat_tests)

pub len_of : (w : ℕ) → 0 < w → w ≤ 99999 → block_len w ≡ Some w
len_of w some few = grind (arith, nat_tests)

pub len_is : (w n : ℕ) → block_len w ≡ Some n → w ≤ 99999 → n ≡ w
len_is w n e few =
    let bounds = block_len-bounds w n e in
    cc (e, len_of w (omega (arith, bounds.0, bounds.2)) few)

-- a block that is not a label by its length counts by its length alone
plain_same : (place : TapePlace) (a b : List ℕ) → is_label_length (length a) ≡ false
    → is_label_length (length b) ≡ false → is_noise a ≡ is_noise b → unlabelled (step_of place (block a)) ≡ step_of place (block b)
plain_same place a b h k e =
    ap unlabelled (plain_step place a h) ∙ plain_unlabelled place (is_noise a)
    ∙ ap (plain_of place) e ∙ sym (plain_step place b k)

-- where no labels are read, every block is left as it is
data_same : (place : TapePlace) (a b : List ℕ) → reads_labels place ≡ false
    → unlabelled (step_of place (block a)) ≡ step_of place (block b)
data_same (places.Data code seen) a b e = refl
data_same places.Over a b e = refl
data_same (places.Start n) a b e = absurd (cc e)
data_same (places.Labels code n) a b e = absurd (cc e)
data_same (places.Blank code) a b e = absurd (cc e)
data_same (places.Second code seen) a b e = absurd (cc e)
data_same (places.Headers code seen) a b e = absurd (cc e)
data_same (places.Trailer code seen) a b e = absurd (cc e)
data_same (places.Trailers code seen) a b e = absurd (cc e)
data_same (places.Next code seen) a b e = absurd (cc e)
data_same places.Ended a b e = absurd (cc e)

-- a block that is not a label, by its length
pub other_step : (place : TapePlace) (w : ℕ) (content : List ℕ) → block_len w ≡ Some (length content)
    → (reads_labels place && is_label_length w) ≡ false
    → block_step place w (length content) ≡ step_of place (item_of w content)
other_step place w content e a =
    go (nat_lt longest_block w) (nat_le w longest_block) (reads_labels place) (is_label_length w)
    refl refl refl refl a
  where
    shown : List ℕ
    shown = take (min (length content) 121) (replicate 121 0)

    size : length shown ≡ min (length content) 121
    size = length-take (min (length content) 121) (replicate 121 0) ∙ omega arith

    go : (g l r t : Bool) → nat_lt longest_block w ≡ g → nat_le w longest_block ≡ l
        → reads_labels place ≡ r → is_label_length w ≡ t → (r && t) ≡ false
        → block_step place w (length content) ≡ step_of place (item_of w content)
    go true true r t g l p q b = absurd (grind (arith, nat_tests))
    go true false r t g l p q b = rw (g, l) (bad_unlabelled place)
    go false false r t g l p q b = absurd (grind (arith, nat_tests))
    go false true false t g l p q b = rw (g, l) (data_same place shown content p)
    go false true true true g l p q b = absurd (cc b)
    go false true true false g l p q b =
        let few : w ≤ 99999 = grind (arith, nat_tests) in
        let is = len_is w (length content) e few in
        let no : is_label_length (length content) ≡ false = ap is_label_length is ∙ q in
        rw (g, l) (plain_same place shown content (shown_no (length content) (length shown) size no)
        no (noise_same (length content) (length shown) size))

-- ---- blocks

pub framed_size : (bytes : List ℕ) (w : ℕ) (content : List ℕ) → IsFramed bytes w content
    → length bytes ≡ block_extent (length content)
framed_size bytes w content f = omega (
  arith,
  ap length f.whole,
  length-append f.lead (content ++ (f.pad ++ f.trail)),
  length-append content (f.pad ++ f.trail),
  length-append f.pad f.trail,
  f.lead_is.four,
  f.pad_is,
  f.trail_is.four,
)

pub framed_word : (bytes more : List ℕ) (w : ℕ) (content : List ℕ) → IsFramed bytes w content
    → little_number 4 (bytes ++ more) ≡ w
framed_word bytes more w content f =
    let rest : List ℕ = content ++ (f.pad ++ f.trail) in
    ap (λ (b : List ℕ). little_number 4 (b ++ more)) f.whole
    ∙ ap (little_number 4) (append_assoc f.lead rest more)
    ∙ word_in_front f.lead (rest ++ more) w f.lead_is

-- a label
label_looked : (room : ℕ) (place : TapePlace) (w : ℕ) (bytes content more : List ℕ)
    → block_extent w ≤ room → length content ≡ w → IsFramed bytes w content
    → looked_label room place w (bytes ++ more)
    ≡ seen (block_extent w) (step_of place (block content))
label_looked room place w bytes content more h e f =
    let behind : List ℕ = (f.pad ++ f.trail) ++ more in
    let whole : bytes ++ more ≡ f.lead ++ (content ++ behind) =
    ap (λ (b : List ℕ). b ++ more) f.whole
    ∙ append_assoc f.lead (content ++ (f.pad ++ f.trail)) more
    ∙ ap (λ (b : List ℕ). f.lead ++ b) (append_assoc content (f.pad ++ f.trail) more) in
    let four : drop 4 (bytes ++ more) ≡ content ++ behind =
    ap (drop 4) whole ∙ drop_at f.lead (content ++ behind) 4 f.lead_is.four in
    let text : take w (drop 4 (bytes ++ more)) ≡ content =
    ap (take w) four ∙ take_at content behind w e in
    let padded : length (content ++ f.pad) ≡ w + w % 2 =
    omega (arith, length-append content f.pad, e, f.pad_is ∙ ap (λ n. n % 2) e) in
    let last : drop (4 + w + w % 2) (bytes ++ more) ≡ f.trail ++ more =
    ap (λ n. drop n (bytes ++ more)) {x = 4 + w + w % 2} {y = 4 + (w + w % 2)} (omega arith)
    ∙ sym (drop-drop (w + w % 2) 4 (bytes ++ more)) ∙ ap (drop (w + w % 2)) four
    ∙ ap (drop (w + w % 2)) (ap (λ (l : List ℕ). content ++ l) (append_assoc f.pad f.trail more)
    ∙ sym (append_assoc content f.pad (f.trail ++ more)))
    ∙ drop_at (content ++ f.pad) (f.trail ++ more) (w + w % 2) padded in
    let word : little_number 4 (drop (4 + w + w % 2) (bytes ++ more)) ≡ w =
    ap (little_number 4) last ∙ word_in_front f.trail more w f.trail_is in
    let same : (little_number 4 (drop (4 + w + w % 2) (bytes ++ more)) == w) ≡ true =
    grind (arith, nat_tests) in
    let long : block_extent w ≤ length (bytes ++ more) =
    omega (arith, framed_size bytes w content f, e, length-append bytes more) in
    rw (no_less (length (bytes ++ more)) (block_extent w) long, same, text)
    (within_is room (block_extent w) (step_of place (block content)) h)

is_same : (a w : ℕ) → a ≡ w → (a == w) ≡ true
is_same a w e = grind (arith, nat_tests)

-- a label of which all bytes are held, and the two words agree
pub label_shown : (room : ℕ) (place : TapePlace) (w word : ℕ) (xs : List ℕ)
    → 4 + w + w % 2 + 4 ≤ length xs
    → word ≡ little_number 4 (take (length xs - (4 + w + w % 2)) (drop (4 + w + w % 2) xs))
    → word ≡ w
    → within room (4 + w + w % 2 + 4) (step_of place (block (take (4 + w - 4) (drop 4 xs))))
    ≡ looked_label room place w xs
label_shown room place w word xs h e f =
    let trail : ℕ = 4 + w + w % 2 in
    let all : take (length xs - trail) (drop trail xs) ≡ drop trail xs =
    take_all (length xs - trail) (drop trail xs) (omega (arith, length-drop trail xs)) in
    let same : little_number 4 (drop trail xs) ≡ w =
    ap (little_number 4) (sym all) ∙ sym e ∙ f in
    let size : 4 + w + w % 2 + 4 ≡ block_extent w = omega arith in
    let text : 4 + w - 4 ≡ w = omega arith in
    rw (
      size,
      text,
      no_less (length xs) (block_extent w) (omega (arith, h)),
      is_same (little_number 4 (drop trail xs)) w same,
    ) refl

pub no_mark : (w n : ℕ) → block_len w ≡ Some n → (w == mark_word) ≡ false
no_mark w n e =
    let bounds = block_len-bounds w n e in
    let some : 0 < w = omega (arith, bounds.0, bounds.2) in
    grind (arith, nat_tests)

pub no_gap : (w n : ℕ) → block_len w ≡ Some n → (w == gap_word) ≡ false
no_gap w n e = go (w == gap_word) refl
  where
    none : block_len gap_word ≡ None
    none = refl

    go : (t : Bool) → (w == gap_word) ≡ t → t ≡ false
    go false d = refl
    go true d =
        let is : w ≡ gap_word = grind (arith, nat_tests) in
        absurd (cc (sym none ∙ ap block_len (sym is) ∙ e))

-- a block that is not a label
other_looked : (room : ℕ) (place : TapePlace) (bytes content more : List ℕ) (w : ℕ)
    → length bytes ≤ room → block_len w ≡ Some (length content) → IsFramed bytes w content
    → (reads_labels place && is_label_length w) ≡ false
    → looked_word room place w (bytes ++ more)
    ≡ seen (block_extent (length content)) (step_of place (item_of w content))
other_looked room place bytes content more w h e f a =
    let n = length content in
    let begins : begins_label place (bytes ++ more) ≡ false =
    ap (λ v. reads_labels place && is_label_length v) (framed_word bytes more w content f) ∙ a in
    let room_is : block_extent n ≤ room = omega (arith, h, framed_size bytes w content f) in
    rw (no_mark w n e, no_gap w n e, begins)
    (ap (looked_block room place w) e
    ∙ within_is room (block_extent n) (block_step place w n) room_is
    ∙ ap (λ (z : TapePlace × Change). seen (block_extent n) z) (other_step place w content e a))

block_looked : (room : ℕ) (place : TapePlace) (bytes content more : List ℕ) (w : ℕ) (r t : Bool)
    → length bytes ≤ room → block_len w ≡ Some (length content) → IsFramed bytes w content
    → reads_labels place ≡ r → is_label_length w ≡ t
    → looked_word room place w (bytes ++ more)
    ≡ seen (block_extent (length content)) (step_of place (item_of w content))
block_looked room place bytes content more w true true h e f p q =
    let few : w ≤ 99999 = grind (arith, nat_tests) in
    let n : length content ≡ w = len_is w (length content) e few in
    let good : nat_le w longest_block ≡ true = grind (arith, nat_tests) in
    let begins : begins_label place (bytes ++ more) ≡ true =
    ap (λ v. reads_labels place && is_label_length v) (framed_word bytes more w content f)
    ∙ ap (λ v. reads_labels place && v) q ∙ ap (λ v. v && true) p in
    rw (no_mark w (length content) e, no_gap w (length content) e, begins, n, good)
    (label_looked room place w bytes content more
    (omega (arith, h, framed_size bytes w content f, n)) n f)
block_looked room place bytes content more w true false h e f p q =
    other_looked room place bytes content more w h e f
    (ap (λ v. reads_labels place && v) q ∙ ap (λ v. v && false) p)
block_looked room place bytes content more w false t h e f p q =
    other_looked room place bytes content more w h e f (ap (λ v. v && is_label_length w) p)

pub looked_spelled : (room : ℕ) (place : TapePlace) (bytes more : List ℕ) (given : List TapeItem)
    → is_over place ≡ false → length bytes ≤ room → IsSpelling bytes given
    → looked room place (bytes ++ more) ≡ seen (length bytes) (stepped place given)
looked_spelled room place bytes more given o h (a_mark is e) = rw (e, is.four)
    (looked_is room place (bytes ++ more) mark_word o
    (omega (arith, is.four, length-append bytes more)) (word_in_front bytes more mark_word is)
    ∙ within_is room 4 (step_of place mark) (omega (arith, is.four, h)))
looked_spelled room place bytes more given o h (a_gap is e) = rw (e, is.four)
    (looked_is room place (bytes ++ more) gap_word o
    (omega (arith, is.four, length-append bytes more)) (word_in_front bytes more gap_word is)
    ∙ within_is room 4 (place, same) (omega (arith, is.four, h)))
looked_spelled room place bytes more given o h (a_block w content len f e) =
    rw (e, framed_size bytes w content f)
    (looked_is room place (bytes ++ more) w o (omega
    (arith, framed_size bytes w content f, length-append bytes more))
    (framed_word bytes more w content f)
    ∙ block_looked room place bytes content more w _ _ h len f refl refl)
