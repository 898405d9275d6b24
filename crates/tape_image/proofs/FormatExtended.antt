-- Images of SIMH's extended format.
use Rattle.std.proofs.Common.{◌≡◌, ◌≢◌, inl, inr, ℕ, ◌+◌, ◌/◌, ◌%◌, ◌^◌, ◌≤◌, ◌<◌, Bool}
use Rattle.std.proofs.Common.{true, false, nat_le, nat_eq, ◌==◌, ◌&&◌, if◌then◌else◌}
use Rattle.std.proofs.Common.{List, [], ◌∷◌, ◌++◌, length, take, Some, None, refl, sym}
use Rattle.std.proofs.Common.{ap, subst, ◌∙◌, arith, append_assoc, length-append}
use Rattle.std.proofs.lemmas.List.{length-take}
use Rattle.std.specs.List.{starts_with}
use lib.Seq.{drop_at, take_at}
use Rattle.std.proofs.lemmas.Bool.Decides.{nat_tests}
use Rattle.byteorder.specs.Endian.{little_number, little_bytes}
use Rattle.tape_image.specs.declared.format.ImageFormat.{ImageFormat}
use Rattle.tape_image.specs.declared.format.ImageFormat.TheVariants as formats
use Rattle.tape_image.specs.declared.format.step.Piece.TheVariants as pieces
use Rattle.tape_image.specs.declared.format.step.Step.TheVariants.{Leave}
use Rattle.tape_image.specs.Tape.{TapeItem, bad, mark}
use Rattle.tape_image.specs.Word.{IsWord, mark_word, gap_word, end_word, block_len}
use Rattle.tape_image.specs.Written.{written}
use Rattle.tape_image.specs.Spelling.{IsSpelling, a_mark, a_gap, a_block, item_of, Leads}
use Rattle.tape_image.specs.Format.{Before, after, passed, left_out, instead}
use Rattle.tape_image.specs.Format.{class_step, extended_block, looked, bytes_after}
use Rattle.tape_image.specs.FormatItems.{IsBare, IsE11, e11_mark, e11_gap, IsOther, IsMarker}
use Rattle.tape_image.specs.FormatItems.{Encoding, IsEncoding, bytes_of, AreEncodings, EndsImage}
use Rattle.tape_image.specs.FormatItems.{HasItems, SimhImagesKeepItems}
use Rattle.tape_image.specs.FormatItems as encodings
use Rattle.tape_image.proofs.{Words.word_in_front}
use Rattle.tape_image.proofs.WrittenItems.{bad_spelled}
use Rattle.tape_image.proofs.FormatWords.{extended_looked, by_first, leads_by, nothing_by}
use Rattle.tape_image.proofs.FormatWords.{instead_is, alone_leads, mark_there, gap_there}
use Rattle.tape_image.proofs.FormatWords.{block_there}

-- ---- the extended format

pub passed_all : (body rest : List ℕ) (n : ℕ) (f : List ℕ → List ℕ) → length body ≡ n
    → passed (record { count = n; tail = pieces.Nothing; last = 0 }) (body ++ rest) f
    ≡ body ++ f rest
passed_all body rest n f e = rw (take_at body rest n e, drop_at body rest n e) refl

pub block_leads : (before : Before) (w : ℕ) (content lead pad trail rest : List ℕ) → IsWord lead w
    → IsWord trail w → length pad ≡ length content % 2 → block_len w ≡ Some (length content)
    → Leads (bytes_after formats.Extended before
    (lead ++ ((content ++ (pad ++ trail)) ++ rest)))
    (item_of w content ∷ []) (bytes_after formats.Extended (after 0) rest)
block_leads before w content lead pad trail rest a b p n =
    let f : List ℕ → List ℕ = bytes_after formats.Extended (after 0) in
    let m = length content in
    let body = content ++ (pad ++ trail) in
    let size : length body ≡ m + m % 2 + 4 =
    omega (arith, length-append content (pad ++ trail), length-append pad trail, p, b.four) in
    leads_by _ (little_bytes 4 w ++ body) (f rest) (item_of w content ∷ [])
    (block_there w content pad trail n p b)
    (by_first formats.Extended before (lead ++ (body ++ rest))
    (extended_block w (Some m) (take 4 (body ++ rest)))
    (extended_looked before lead (body ++ rest) w a
    ∙ ap (λ o. extended_block w o (take 4 (body ++ rest))) n)
    ∙ ap (λ (l : List ℕ). little_bytes 4 w ++ passed (record {
      count = m + m % 2 + 4;
      tail = pieces.Nothing;
      last = 0;
    }) l f) (drop_at lead (body ++ rest) 4 a.four)
    ∙ ap (λ (l : List ℕ). little_bytes 4 w ++ l) (passed_all body rest (m + m % 2 + 4) f size)
    ∙ sym (append_assoc (little_bytes 4 w) body (f rest)))

-- the tests of a word, by its class
pub not_word : (w v : ℕ) → (w ≡ v → ⊥) → (w == v) ≡ false
not_word w v h = go (w == v) refl
  where
    go : (t : Bool) → (w == v) ≡ t → (w == v) ≡ false
    go true e = absurd (h (grind (arith, nat_tests)))
    go false e = e

pub is_word : (w v : ℕ) → w ≡ v → (w == v) ≡ true
is_word w v e = grind (arith, nat_tests)

-- a word of a class other than 0 and 8 begins no block
pub no_block : (w : ℕ) → 0 < w / 2 ^ 28 → w / 2 ^ 28 ≢ 8 → block_len w ≡ None
no_block w h k = go (w % 2 ^ 24 == 0) refl
  where
    go : (t : Bool) → (w % 2 ^ 24 == 0) ≡ t → block_len w ≡ None
    go true e = rw (e) refl
    go false e = rw (
      e,
      not_word (w / 2 ^ 24) 0 (λ z. omega (arith, z, h)),
      not_word (w / 2 ^ 24) 128 (λ z. k (omega (arith, z))),
    ) refl

pub other_step : (w : ℕ) (next : List ℕ) → IsOther w
    → class_step w next ≡ Leave (w % 2 ^ 28 + w % 2 ^ 28 % 2) w
other_step w next h = rw (
  not_word w 0x80000000 (λ z. h.3 (omega (arith, z))),
  not_word w 0xFFFEFFFF (λ z. absurd (omega (arith, z, h.1))),
  not_word w gap_word (λ z. absurd (omega (arith, z, h.1))),
  not_word w end_word (λ z. absurd (omega (arith, z, h.1))),
  not_word (w / 2 ^ 28) 0 (λ z. absurd (omega (arith, z, h.0))),
  not_word (w / 2 ^ 28) 8 h.3,
  not_word (w / 2 ^ 28) 7 h.2,
  not_word (w / 2 ^ 28) 15 (λ z. absurd (omega (arith, z, h.1))),
) refl

pub marker_step : (w : ℕ) (next : List ℕ) → IsMarker w
    → class_step w next ≡ instead pieces.Nothing 4
marker_step w next (inl e) = rw (
  not_word w 0x80000000 (λ z. absurd (omega (arith, z, e))),
  not_word w 0xFFFEFFFF (λ z. absurd (omega (arith, z, e))),
  not_word w gap_word (λ z. absurd (omega (arith, z, e))),
  not_word w end_word (λ z. absurd (omega (arith, z, e))),
  not_word (w / 2 ^ 28) 0 (λ z. absurd (omega (arith, z, e))),
  not_word (w / 2 ^ 28) 8 (λ z. absurd (omega (arith, z, e))),
  is_word (w / 2 ^ 28) 7 e,
) refl
marker_step w next (inr (e, end, gap, half)) = rw (
  not_word w 0x80000000 (λ z. absurd (omega (arith, z, e))),
  not_word w 0xFFFEFFFF half,
  not_word w gap_word gap,
  not_word w end_word end,
  not_word (w / 2 ^ 28) 0 (λ z. absurd (omega (arith, z, e))),
  not_word (w / 2 ^ 28) 8 (λ z. absurd (omega (arith, z, e))),
  not_word (w / 2 ^ 28) 7 (λ z. absurd (omega (arith, z, e))),
  is_word (w / 2 ^ 28) 15 e,
) refl

pub marker_class : (w : ℕ) → IsMarker w → (0 < w / 2 ^ 28) × (w / 2 ^ 28 ≢ 8)
marker_class w (inl e) = (omega (arith, e), λ z. absurd (omega (arith, z, e)))
marker_class w (inr (e, end, gap, half)) =
    (omega (arith, e), λ z. absurd (omega (arith, z, e)))

-- a word that begins no block is looked at by its class
pub class_looked : (before : Before) (lead ys : List ℕ) (w : ℕ) → IsWord lead w → block_len w ≡ None
    → looked formats.Extended before (lead ++ ys) ≡ class_step w (take 4 ys)
class_looked before lead ys w is none =
    extended_looked before lead ys w is ∙ ap (λ o. extended_block w o (take 4 ys)) none

-- a record is left out
pub left_is : (n w : ℕ) (front trail rest : List ℕ) (f : List ℕ → List ℕ) → length front ≡ n
    → IsWord trail w → left_out n w (front ++ (trail ++ rest)) f ≡ f rest
left_is n w front trail rest f e is =
    let long : nat_le 4 (length (trail ++ rest)) ≡ true =
    grind (arith, nat_tests, length-append trail rest, is.four) in
    let same : (little_number 4 (trail ++ rest) == w) ≡ true =
    is_word (little_number 4 (trail ++ rest)) w (word_in_front trail rest w is) in
    rw (drop_at front (trail ++ rest) n e, long, same) (ap f (drop_at trail rest 4 is.four))

pub record_leads : (before : Before) (w : ℕ) (content lead pad trail rest : List ℕ) → IsOther w
    → length content ≡ w % 2 ^ 28 → length pad ≡ length content % 2 → IsWord lead w
    → IsWord trail w
    → Leads (bytes_after formats.Extended before
    (lead ++ ((content ++ pad) ++ (trail ++ rest)))) [] (bytes_after formats.Extended
    (after 0) rest)
record_leads before w content lead pad trail rest h size p a b =
    let f : List ℕ → List ℕ = bytes_after formats.Extended (after 0) in
    let n = w % 2 ^ 28 + w % 2 ^ 28 % 2 in
    let ys = (content ++ pad) ++ (trail ++ rest) in
    nothing_by _ (f rest)
    (by_first formats.Extended before (lead ++ ys) (Leave n w)
    (class_looked before lead ys w a (no_block w h.0 h.3) ∙ other_step w (take 4 ys) h)
    ∙ ap (λ (l : List ℕ). left_out n w l f) (drop_at lead ys 4 a.four)
    ∙ left_is n w (content ++ pad) trail rest f
    (omega (arith, length-append content pad, p, size)) b)

-- nothing stands for the bytes
pub none_leads : (before : Before) (bytes rest : List ℕ) (n : ℕ) → length bytes ≡ n
    → looked formats.Extended before (bytes ++ rest) ≡ instead pieces.Nothing n
    → Leads (bytes_after formats.Extended before (bytes ++ rest)) []
    (bytes_after formats.Extended (after 0) rest)
none_leads before bytes rest n e is =
    nothing_by _ _ (instead_is formats.Extended before bytes rest pieces.Nothing n e is)

-- a bad block stands for the bytes
pub bad_leads : (before : Before) (bytes rest : List ℕ) (n : ℕ) → length bytes ≡ n
    → looked formats.Extended before (bytes ++ rest) ≡ instead pieces.Bad n
    → Leads (bytes_after formats.Extended before (bytes ++ rest)) (bad ∷ [])
    (bytes_after formats.Extended (after 0) rest)
bad_leads before bytes rest n e is =
    leads_by _ (written bad) _ (bad ∷ []) bad_spelled
    (instead_is formats.Extended before bytes rest pieces.Bad n e is)

pub no_again : (next : List ℕ) → length next ≤ 4 → (IsWord next 0x80000000 → ⊥)
    → (nat_le 4 (length next) && (little_number 4 next == 0x80000000)) ≡ false
no_again next few h = go (nat_le 4 (length next)) (little_number 4 next == 0x80000000) refl refl
  where
    go : (t u : Bool) → nat_le 4 (length next) ≡ t → (little_number 4 next == 0x80000000) ≡ u
        → (nat_le 4 (length next) && (little_number 4 next == 0x80000000)) ≡ false
    go false u e f = rw (e) refl
    go true false e f = rw (e, f) refl
    go true true e f =
        let four : 4 ≤ length next = grind (arith, nat_tests) in
        absurd (h (record { four = omega (arith, four, few); value = grind (arith, nat_tests) }))

pub again : (trail rest : List ℕ) → IsWord trail 0x80000000
    → (nat_le 4 (length (take 4 (trail ++ rest)))
    && (little_number 4 (take 4 (trail ++ rest)) == 0x80000000)) ≡ true
again trail rest is = rw (
  take_at trail rest 4 is.four,
  is_word (little_number 4 trail) 0x80000000 is.value,
  is.four,
) refl

pub starts_same : (rest : List ℕ) → starts_with nat_eq (take 4 rest) (255 ∷ 255 ∷ [])
    ≡ starts_with nat_eq rest (255 ∷ 255 ∷ [])
starts_same [] = refl
starts_same (x ∷ []) = refl
starts_same (x ∷ y ∷ xs) = refl

-- the parts of a record
pub framed : (a b c d r : List ℕ) → (a ++ (b ++ (c ++ d))) ++ r ≡ a ++ ((b ++ c) ++ (d ++ r))
framed a b c d r =
    append_assoc a (b ++ (c ++ d)) r
    ∙ ap (λ (l : List ℕ). a ++ (l ++ r)) (sym (append_assoc b c d))
    ∙ ap (λ (l : List ℕ). a ++ l) (append_assoc (b ++ c) d r)

-- the same encoding of other items
module _ (format : ImageFormat) (before : Before) (rest : List ℕ) where
  moved : (xs ys : List ℕ) (given : List TapeItem) → xs ≡ ys
      → Leads (bytes_after format before ys) given (bytes_after format (after 0) rest)
      → Leads (bytes_after format before xs) given (bytes_after format (after 0) rest)
  moved xs ys given e h = subst
      (λ (l : List ℕ). Leads (bytes_after format before l) given (bytes_after format
      (after 0) rest))
      (sym e) h

pub standard_leads : (before : Before) (bytes rest : List ℕ) (given : List TapeItem)
    → IsSpelling bytes given
    → Leads (bytes_after formats.Extended before (bytes ++ rest)) given
    (bytes_after formats.Extended (after 0) rest)
standard_leads before bytes rest given (a_mark is e) =
    rw (e) (alone_leads formats.Extended before bytes rest mark_word (mark ∷ []) is.four
    (extended_looked before bytes rest mark_word is) mark_there)
standard_leads before bytes rest given (a_gap is e) =
    rw (e) (alone_leads formats.Extended before bytes rest gap_word [] is.four
    (extended_looked before bytes rest gap_word is) gap_there)
standard_leads before bytes rest given (a_block w content n f e) =
    rw (e) (moved formats.Extended before rest (bytes ++ rest)
    (f.lead ++ ((content ++ (f.pad ++ f.trail)) ++ rest)) (item_of w content ∷ [])
    (ap (λ (l : List ℕ). l ++ rest) f.whole
    ∙ append_assoc f.lead (content ++ (f.pad ++ f.trail)) rest)
    (block_leads before w content f.lead f.pad f.trail rest f.lead_is f.trail_is f.pad_is n))

pub extended_leads : (before : Before) (bytes rest : List ℕ) (given : List TapeItem)
    → encodings.IsExtended bytes rest given
    → Leads (bytes_after formats.Extended before (bytes ++ rest)) given
    (bytes_after formats.Extended (after 0) rest)
extended_leads before bytes rest given (encodings.standard_item is) =
    standard_leads before bytes rest given is
extended_leads before bytes rest given (encodings.other_record w content h size f e) =
    rw (e) (moved formats.Extended before rest (bytes ++ rest)
    (f.lead ++ ((content ++ f.pad) ++ (f.trail ++ rest))) []
    (ap (λ (l : List ℕ). l ++ rest) f.whole ∙ framed f.lead content f.pad f.trail rest)
    (record_leads before w content f.lead f.pad f.trail rest h size f.pad_is f.lead_is
    f.trail_is))
extended_leads before bytes rest given (encodings.a_marker w is h e) =
    let class = marker_class w h in
    rw (e) (none_leads before bytes rest 4 is.four
    (class_looked before bytes rest w is (no_block w class.0 class.1)
    ∙ marker_step w (take 4 rest) h))
extended_leads before bytes rest given (encodings.bad_word is h e) =
    rw (e) (bad_leads before bytes rest 4 is.four
    (class_looked before bytes rest 0x80000000 is refl
    ∙ ap (λ (t : Bool). instead pieces.Bad (if t then 8 else 4))
    (no_again (take 4 rest) (omega (arith, length-take 4 rest)) h)))
extended_leads before bytes rest given (encodings.bad_words lead trail whole a b e) =
    rw (e) (moved formats.Extended before rest (bytes ++ rest) ((lead ++ trail) ++ rest)
    (bad ∷ []) (ap (λ (l : List ℕ). l ++ rest) whole)
    (bad_leads before (lead ++ trail) rest 8
    (omega (arith, length-append lead trail, a.four, b.four))
    (ap (looked formats.Extended before) (append_assoc lead trail rest)
    ∙ class_looked before lead (trail ++ rest) 0x80000000 a refl
    ∙ ap (λ (t : Bool). instead pieces.Bad (if t then 8 else 4)) (again trail rest b))))
extended_leads before bytes rest given (encodings.half_gap is h e) =
    rw (e) (none_leads before bytes rest 4 is.four
    (class_looked before bytes rest 0xFFFEFFFF is refl
    ∙ ap (λ (t : Bool). instead pieces.Nothing (if t then 2 else 4)) (starts_same rest ∙ h)))
extended_leads before bytes rest given (encodings.gap_behind more whole behind e) =
    rw (e, whole, behind) (none_leads before (255 ∷ 255 ∷ []) (254 ∷ 255 ∷ 255 ∷ 255 ∷ more) 2 refl
    (class_looked before (255 ∷ 255 ∷ 254 ∷ 255 ∷ []) (255 ∷ 255 ∷ more) 0xFFFEFFFF
    (record { four = refl; value = refl }) refl))
