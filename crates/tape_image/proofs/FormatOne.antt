-- Bytes begin with at most one encoding of a format.
use Rattle.std.proofs.Common.{◌≡◌, ℕ, ◌+◌, ◌%◌, ◌^◌, ◌<◌, Bool}
use Rattle.std.proofs.Common.{◌==◌, if◌then◌else◌, List, [], ◌∷◌, ◌++◌, length, take, drop}
use Rattle.std.proofs.Common.{Option, Some, None, refl, sym, ap, ◌∙◌, arith, append_assoc}
use Rattle.std.proofs.Common.{length-append, take-append-drop}
use Rattle.std.proofs.lemmas.List.{length-take}
use lib.Seq.{drop_at, take_at}
use Rattle.tape_image.specs.declared.format.ImageFormat.{ImageFormat}
use Rattle.tape_image.specs.declared.format.ImageFormat.TheVariants as formats
use Rattle.tape_image.specs.declared.format.step.Piece.{Piece}
use Rattle.tape_image.specs.declared.format.step.Piece.TheVariants as pieces
use Rattle.tape_image.specs.declared.format.step.Step.{Step}
use Rattle.tape_image.specs.declared.format.step.Step.TheVariants.{Stop, Give, Leave, Keep}
use Rattle.tape_image.specs.Tape.{TapeItem, bad, mark}
use Rattle.tape_image.specs.Word.{IsWord, mark_word, gap_word, end_word, block_len}
use Rattle.tape_image.specs.Spelling.{a_mark, a_gap, a_block, item_of}
use Rattle.tape_image.specs.Format.{after, instead, extended_block, e11_block, looked}
use Rattle.tape_image.specs.FormatItems.{IsBare, IsE11, IsExtended}
use Rattle.tape_image.specs.FormatItems as encodings
use Rattle.tape_image.proofs.Spellings.{framed_long}
use Rattle.tape_image.proofs.FormatWords.{extended_looked, e11_looked, three}
use Rattle.tape_image.proofs.FormatExtended.{class_looked, marker_class, marker_step, no_block}
use Rattle.tape_image.specs.declared.item.Ending.{Ending}
use Rattle.tape_image.specs.declared.item.Ending.TheVariants.{Marked, Physical}
use Rattle.tape_image.specs.Spelling.{EndsHere}
use Rattle.tape_image.proofs.{FormatItems.first_four, Spellings.spelling_long}
use Rattle.tape_image.proofs.FormatExtended.{other_step, no_again, again, starts_same, framed}

-- ---- what was looked at says how long the encoding is, and what it gives

abbrev size_of : Step → ℕ
size_of (Stop piece) = 0
size_of (Give g) = g.taken + (g.passed.count + g.passed.last)
size_of (Leave n w) = 4 + (n + 4)
size_of (Keep c) = 0

abbrev by_word : ℕ → Option ℕ → List ℕ → List TapeItem
by_word w None xs = if w == mark_word then mark ∷ [] else []
by_word w (Some n) xs = item_of w (take n (drop 4 xs)) ∷ []

abbrev by_piece : Piece → List ℕ → List TapeItem
by_piece pieces.Nothing xs = []
by_piece pieces.Zero xs = []
by_piece (pieces.Word w) xs = by_word w (block_len w) xs
by_piece (pieces.ZeroWord w) xs = []
by_piece pieces.Bad xs = bad ∷ []

abbrev items_of : Step → List ℕ → List TapeItem
items_of (Stop piece) xs = []
items_of (Give g) xs = by_piece g.front xs
items_of (Leave n w) xs = []
items_of (Keep c) xs = []

record Seen (format : ImageFormat) (xs s : List ℕ) (given : List TapeItem) : Type 0 where
  size : length s ≡ size_of (looked format (after 0) xs)
  items : given ≡ items_of (looked format (after 0) xs) xs

seen_by : (format : ImageFormat) (xs s : List ℕ) (given : List TapeItem) (st : Step)
    → looked format (after 0) xs ≡ st → length s ≡ size_of st → given ≡ items_of st xs
    → Seen format xs s given
seen_by format xs s given st is a b = record {
  size = a ∙ ap size_of (sym is);
  items = b ∙ ap (λ z. items_of z xs) (sym is);
}

-- two encodings at the start of the same bytes
seen_one : (format : ImageFormat) (s t x y : List ℕ) (g h : List TapeItem)
    → Seen format (s ++ x) s g → Seen format (t ++ y) t h → s ++ x ≡ t ++ y → (s ≡ t) × (g ≡ h)
seen_one format s t x y g h a b e =
    let n : length s ≡ length t =
    a.size ∙ ap (λ l. size_of (looked format (after 0) l)) e ∙ sym b.size in (
      sym (take_at s x (length s) refl) ∙ ap (λ (l : List ℕ). take (length s) l) e
          ∙ take_at t y (length s) (sym n),
      a.items ∙ ap (λ l. items_of (looked format (after 0) l) l) e ∙ sym b.items,
    )

-- the content of a block
content_there : (lead content behind : List ℕ) → length lead ≡ 4
    → take (length content) (drop 4 (lead ++ (content ++ behind))) ≡ content
content_there lead content behind e =
    ap (λ (l : List ℕ). take (length content) l) (drop_at lead (content ++ behind) 4 e)
    ∙ take_at content behind (length content) refl

block_items : (w : ℕ) (lead content behind xs : List ℕ) → length lead ≡ 4
    → block_len w ≡ Some (length content) → xs ≡ lead ++ (content ++ behind)
    → item_of w content ∷ [] ≡ by_word w (block_len w) xs
block_items w lead content behind xs four n e =
    ap (λ (l : List ℕ). item_of w l ∷ []) (sym (content_there lead content behind four)
    ∙ ap (λ (l : List ℕ). take (length content) (drop 4 l)) (sym e))
    ∙ ap (λ o. by_word w o xs) (sym n)

-- ---- the extended format

extended_seen : (s rest : List ℕ) (given : List TapeItem) → IsExtended s rest given
    → Seen formats.Extended (s ++ rest) s given
extended_seen s rest given (encodings.standard_item (a_mark is e)) =
    seen_by formats.Extended (s ++ rest) s given _ (extended_looked
    (after 0) s rest mark_word is) is.four e
extended_seen s rest given (encodings.standard_item (a_gap is e)) =
    seen_by formats.Extended (s ++ rest) s given _ (extended_looked
    (after 0) s rest gap_word is) is.four e
extended_seen s rest given (encodings.standard_item (a_block w content n f e)) =
    let m = length content in
    let whole : s ++ rest ≡ f.lead ++ ((content ++ (f.pad ++ f.trail)) ++ rest) =
    ap (λ (l : List ℕ). l ++ rest) f.whole
    ∙ append_assoc f.lead (content ++ (f.pad ++ f.trail)) rest in
    let parts : s ++ rest ≡ f.lead ++ (content ++ ((f.pad ++ f.trail) ++ rest)) =
    whole ∙ ap (λ (l : List ℕ). f.lead ++ l) (append_assoc content (f.pad ++ f.trail) rest) in
    seen_by formats.Extended (s ++ rest) s given
    (extended_block w (Some m) (take 4 ((content ++ (f.pad ++ f.trail)) ++ rest)))
    (ap (looked formats.Extended (after 0)) whole
    ∙ extended_looked (after 0) f.lead ((content ++ (f.pad ++ f.trail)) ++ rest) w f.lead_is
    ∙ ap (λ o. extended_block w o (take 4 ((content ++ (f.pad ++ f.trail)) ++ rest))) n)
    (omega (arith, framed_long s w content f))
    (e ∙ block_items w f.lead content ((f.pad ++ f.trail) ++ rest) (s ++ rest) f.lead_is.four n
    parts)
extended_seen s rest given (encodings.other_record w content h size f e) =
    let ys = (content ++ f.pad) ++ (f.trail ++ rest) in
    let whole : s ++ rest ≡ f.lead ++ ys =
    ap (λ (l : List ℕ). l ++ rest) f.whole ∙ framed f.lead content f.pad f.trail rest in
    seen_by formats.Extended (s ++ rest) s given (Leave (w % 2 ^ 28 + w % 2 ^ 28 % 2) w)
    (ap (looked formats.Extended (after 0)) whole
    ∙ class_looked (after 0) f.lead ys w f.lead_is (no_block w h.0 h.3) ∙ other_step w
    (take 4 ys) h)
    (omega (arith, framed_long s w content f, size)) e
extended_seen s rest given (encodings.a_marker w is h e) =
    let class = marker_class w h in
    seen_by formats.Extended (s ++ rest) s given (instead pieces.Nothing 4)
    (class_looked (after 0) s rest w is (no_block w class.0 class.1) ∙ marker_step w
    (take 4 rest) h)
    is.four e
extended_seen s rest given (encodings.bad_word is h e) =
    seen_by formats.Extended (s ++ rest) s given (instead pieces.Bad 4)
    (class_looked (after 0) s rest 0x80000000 is refl
    ∙ ap (λ (t : Bool). instead pieces.Bad (if t then 8 else 4))
    (no_again (take 4 rest) (omega (arith, length-take 4 rest)) h)) is.four e
extended_seen s rest given (encodings.bad_words lead trail whole a b e) =
    seen_by formats.Extended (s ++ rest) s given (instead pieces.Bad 8)
    (ap (λ (l : List ℕ). looked formats.Extended (after 0) (l ++ rest)) whole
    ∙ ap (looked formats.Extended (after 0)) (append_assoc lead trail rest)
    ∙ class_looked (after 0) lead (trail ++ rest) 0x80000000 a refl
    ∙ ap (λ (t : Bool). instead pieces.Bad (if t then 8 else 4)) (again trail rest b))
    (omega (arith, ap length whole, length-append lead trail, a.four, b.four)) e
extended_seen s rest given (encodings.half_gap is h e) =
    seen_by formats.Extended (s ++ rest) s given (instead pieces.Nothing 4)
    (class_looked (after 0) s rest 0xFFFEFFFF is refl
    ∙ ap (λ (t : Bool). instead pieces.Nothing (if t then 2 else 4)) (starts_same rest ∙ h))
    is.four e
extended_seen s rest given (encodings.gap_behind more whole behind e) =
    seen_by formats.Extended (s ++ rest) s given (instead pieces.Nothing 2)
    (rw (whole, behind) (class_looked (after 0) (255 ∷ 255 ∷ 254 ∷ 255 ∷ [])
    (255 ∷ 255 ∷ more) 0xFFFEFFFF
    (record { four = refl; value = refl }) refl))
    (ap length whole) e

pub one_extended : (s t x y : List ℕ) (g h : List TapeItem) → IsExtended s x g
    → IsExtended t y h → s ++ x ≡ t ++ y → (s ≡ t) × (g ≡ h)
one_extended s t x y g h a b e =
    seen_one formats.Extended s t x y g h (extended_seen s x g a) (extended_seen t y h b) e

-- ---- E11

pub bare_long : (s : List ℕ) (w : ℕ) (content : List ℕ) → IsBare s w content
    → length s ≡ 8 + length content
bare_long s w content f = omega (
  arith,
  ap length f.whole,
  length-append f.lead (content ++ f.trail),
  length-append content f.trail,
  f.lead_is.four,
  f.trail_is.four,
)

e11_seen : (s rest : List ℕ) (given : List TapeItem) → IsE11 s given
    → Seen formats.E11 (s ++ rest) s given
e11_seen s rest given (encodings.e11_mark is e) =
    seen_by formats.E11 (s ++ rest) s given _ (e11_looked (after 0) s rest mark_word is) is.four e
e11_seen s rest given (encodings.e11_gap is e) =
    seen_by formats.E11 (s ++ rest) s given _ (e11_looked (after 0) s rest gap_word is) is.four e
e11_seen s rest given (encodings.e11_block w content n f e) =
    let whole : s ++ rest ≡ f.lead ++ (content ++ (f.trail ++ rest)) =
    ap (λ (l : List ℕ). l ++ rest) f.whole ∙ three f.lead content f.trail rest in
    seen_by formats.E11 (s ++ rest) s given (e11_block w (Some (length content)))
    (ap (looked formats.E11 (after 0)) whole
    ∙ e11_looked (after 0) f.lead (content ++ (f.trail ++ rest)) w f.lead_is ∙ ap (e11_block w) n)
    (omega (arith, bare_long s w content f))
    (e ∙ block_items w f.lead content (f.trail ++ rest) (s ++ rest) f.lead_is.four n whole)

pub one_e11 : (s t x y : List ℕ) (g h : List TapeItem) → IsE11 s g → IsE11 t h
    → s ++ x ≡ t ++ y → (s ≡ t) × (g ≡ h)
one_e11 s t x y g h a b e =
    seen_one formats.E11 s t x y g h (e11_seen s x g a) (e11_seen t y h b) e

-- ---- no encoding begins where the medium ends

extended_some : (s rest : List ℕ) (given : List TapeItem) → IsExtended s rest given → 0 < length s
extended_some s rest given (encodings.standard_item is) =
    omega (arith, spelling_long s given is)
extended_some s rest given (encodings.other_record w content h size f e) =
    omega (arith, framed_long s w content f)
extended_some s rest given (encodings.a_marker w is h e) = omega (arith, is.four)
extended_some s rest given (encodings.bad_word is h e) = omega (arith, is.four)
extended_some s rest given (encodings.bad_words lead trail whole a b e) =
    omega (arith, ap length whole, length-append lead trail, a.four)
extended_some s rest given (encodings.half_gap is h e) = omega (arith, is.four)
extended_some s rest given (encodings.gap_behind more whole behind e) =
    omega (arith, ap length whole)

e11_some : (s : List ℕ) (given : List TapeItem) → IsE11 s given → 0 < length s
e11_some s given (encodings.e11_mark is e) = omega (arith, is.four)
e11_some s given (encodings.e11_gap is e) = omega (arith, is.four)
e11_some s given (encodings.e11_block w content n f e) = omega (arith, bare_long s w content f)

ends_by : (format : ImageFormat) (s rest : List ℕ) (given : List TapeItem)
    → Seen format (s ++ rest) s given → 0 < length s
    → ((lead ys : List ℕ) → IsWord lead end_word
    → looked format (after 0) (lead ++ ys) ≡ Stop (pieces.Word end_word))
    → (ending : Ending) → EndsHere ending (s ++ rest) → ⊥
ends_by format s rest given seen some stops Physical e =
    omega (arith, some, ap length e, length-append s rest)
ends_by format s rest given seen some stops Marked (long, e) =
    let xs = s ++ rest in
    let is : looked format (after 0) xs ≡ Stop (pieces.Word end_word) =
    ap (looked format (after 0)) (sym (take-append-drop 4 xs))
    ∙ stops (take 4 xs) (drop 4 xs) (first_four xs long e) in
    omega (arith, some, seen.size ∙ ap size_of is)

pub extended_ends : (s rest : List ℕ) (given : List TapeItem) → IsExtended s rest given
    → (ending : Ending) → EndsHere ending (s ++ rest) → ⊥
extended_ends s rest given is = ends_by formats.Extended s rest given
    (extended_seen s rest given is) (extended_some s rest given is)
    (λ lead ys w. class_looked (after 0) lead ys end_word w refl)

pub e11_ends : (s rest : List ℕ) (given : List TapeItem) → IsE11 s given
    → (ending : Ending) → EndsHere ending (s ++ rest) → ⊥
e11_ends s rest given is = ends_by formats.E11 s rest given (e11_seen s rest given is)
    (e11_some s given is) (λ lead ys w. e11_looked (after 0) lead ys end_word w)
