-- The first item of an image of another format, and E11 images.
use Rattle.std.proofs.Common.{◌≡◌, ℕ, ◌%◌, ◌^◌, ◌≤◌, ◌<◌, Bool}
use Rattle.std.proofs.Common.{true, false, nat_lt, ◌==◌, if◌then◌else◌}
use Rattle.std.proofs.Common.{List, [], ◌∷◌, ◌++◌, length, take, drop, Some, refl, sym}
use Rattle.std.proofs.Common.{ap, subst, ◌∙◌, arith, append_assoc, length-append}
use lib.Seq.{drop_at, take_at}
use Rattle.std.proofs.lemmas.Bool.Decides.{nat_tests}
use Rattle.byteorder.specs.Endian.{little_number, little_bytes}
use Rattle.tape_image.specs.declared.format.ImageFormat.{ImageFormat}
use Rattle.tape_image.specs.declared.format.ImageFormat.TheVariants as formats
use Rattle.tape_image.specs.declared.format.step.Piece.{Piece}
use Rattle.tape_image.specs.declared.format.step.Piece.TheVariants as pieces
use Rattle.tape_image.specs.declared.format.step.Step.{Step}
use Rattle.tape_image.specs.Tape.{TapeItem, mark}
use Rattle.tape_image.specs.Word.{IsWord, mark_word, gap_word, block_len}
use Rattle.tape_image.specs.Spelling.{IsSpelling, a_mark, a_gap, a_block, item_of, Leads}
use Rattle.tape_image.specs.Format.{Before, after, piece_bytes, passed, by_step, instead}
use Rattle.tape_image.specs.Format.{e11_block, extended_block, looked, bytes_after}
use Rattle.tape_image.specs.FormatItems.{IsBare, IsE11, e11_mark, e11_gap, IsOther, IsMarker}
use Rattle.tape_image.specs.FormatItems.{Encoding, IsEncoding, bytes_of, AreEncodings, EndsImage}
use Rattle.tape_image.specs.FormatItems.{HasItems, SimhImagesKeepItems}
use Rattle.tape_image.specs.FormatItems as encodings
use Rattle.tape_image.proofs.{Words.word_in_front, Leads.Leads-nil, Leads.Leads-one}
use Rattle.tape_image.proofs.WrittenItems.{word_bytes}
use Rattle.tape_image.proofs.Formats.{first_item, take_behind}

pub not_less : (m n : ℕ) → n ≤ m → nat_lt m n ≡ false
not_less m n h = grind (arith, nat_tests)

pub less_than : (m n : ℕ) → m < n → nat_lt m n ≡ true
less_than m n h = grind (arith, nat_tests)

-- ---- the word at the front

pub front_word : (lead ys : List ℕ) → length lead ≡ 4 → take 8 (lead ++ ys) ≡ lead ++ take 4 ys
front_word lead ys e = take_behind 8 4 lead ys (omega (arith, e))

pub long_word : (lead ys : List ℕ) → length lead ≡ 4
    → nat_lt (length (take 8 (lead ++ ys))) 4 ≡ false
long_word lead ys e = not_less (length (take 8 (lead ++ ys))) 4
    (omega (arith, ap length (front_word lead ys e), length-append lead (take 4 ys), e))

pub number_word : (lead ys : List ℕ) (w : ℕ) → IsWord lead w
    → little_number 4 (take 8 (lead ++ ys)) ≡ w
number_word lead ys w is =
    ap (little_number 4) (front_word lead ys is.four) ∙ word_in_front lead (take 4 ys) w is

pub behind_word : (lead ys : List ℕ) → length lead ≡ 4 → drop 4 (take 8 (lead ++ ys)) ≡ take 4 ys
behind_word lead ys e = ap (drop 4) (front_word lead ys e) ∙ drop_at lead (take 4 ys) 4 e

pub e11_looked : (before : Before) (lead ys : List ℕ) (w : ℕ) → IsWord lead w
    → looked formats.E11 before (lead ++ ys) ≡ e11_block w (block_len w)
e11_looked before lead ys w is = rw (long_word lead ys is.four, number_word lead ys w is) refl

pub extended_looked : (before : Before) (lead ys : List ℕ) (w : ℕ) → IsWord lead w
    → looked formats.Extended before (lead ++ ys) ≡ extended_block w (block_len w) (take 4 ys)
extended_looked before lead ys w is =
    rw (long_word lead ys is.four, number_word lead ys w is, behind_word lead ys is.four) refl

-- ---- what stands for an item

pub by_first : (format : ImageFormat) (before : Before) (xs : List ℕ) (st : Step)
    → looked format before xs ≡ st
    → bytes_after format before xs ≡ by_step st before.kept xs (bytes_after format)
by_first format before xs st e =
    first_item format before xs ∙ ap (λ z. by_step z before.kept xs (bytes_after format)) e

pub leads_by : (xs out rest : List ℕ) (given : List TapeItem) → IsSpelling out given
    → xs ≡ out ++ rest → Leads xs given rest
leads_by xs out rest given is e =
    subst (λ (l : List ℕ). Leads l given rest) (sym e) (Leads-one out rest given is)

pub nothing_by : (xs rest : List ℕ) → xs ≡ rest → Leads xs [] rest
nothing_by xs rest e = subst (λ (l : List ℕ). Leads l [] rest) (sym e) (Leads-nil rest)

-- a piece stands for the bytes
pub instead_is : (format : ImageFormat) (before : Before) (bytes rest : List ℕ) (piece : Piece)
    (n : ℕ)
    → length bytes ≡ n → looked format before (bytes ++ rest) ≡ instead piece n
    → bytes_after format before (bytes ++ rest) ≡ piece_bytes piece ++ bytes_after format
    (after 0) rest
instead_is format before bytes rest piece n e is =
    by_first format before (bytes ++ rest) (instead piece n) is
    ∙ ap (λ (l : List ℕ). piece_bytes piece ++ bytes_after format (after 0) l)
    (drop_at bytes rest n e)

-- the word of a tape mark or an erase gap
pub alone_leads : (format : ImageFormat) (before : Before) (bytes rest : List ℕ) (w : ℕ)
    (given : List TapeItem) → length bytes ≡ 4
    → looked format before (bytes ++ rest) ≡ instead (pieces.Word w) 4
    → IsSpelling (little_bytes 4 w) given
    → Leads (bytes_after format before (bytes ++ rest)) given (bytes_after format (after 0) rest)
alone_leads format before bytes rest w given e is spelled =
    leads_by _ (little_bytes 4 w) _ given spelled
    (instead_is format before bytes rest (pieces.Word w) 4 e is)

pub mark_there : IsSpelling (little_bytes 4 mark_word) (mark ∷ [])
mark_there = a_mark (word_bytes mark_word (omega arith)) refl

pub gap_there : IsSpelling (little_bytes 4 gap_word) []
gap_there = a_gap (word_bytes gap_word (omega arith)) refl

-- a block
pub bound_word : (w n : ℕ) → block_len w ≡ Some n → w < 256 ^ 4
bound_word w n e = grind (arith, nat_tests)

pub block_there : (w : ℕ) (content pad trail : List ℕ) → block_len w ≡ Some (length content)
    → length pad ≡ length content % 2 → IsWord trail w
    → IsSpelling (little_bytes 4 w ++ (content ++ (pad ++ trail))) (item_of w content ∷ [])
block_there w content pad trail n p is = a_block w content n
    (record {
      lead = little_bytes 4 w;
      pad = pad;
      trail = trail;
      whole = refl;
      lead_is = word_bytes w (bound_word w (length content) n);
      pad_is = p;
      trail_is = is;
    })
    refl

-- the parts of a block, and the rest
pub joined : (a b c d r : List ℕ) → a ++ (b ++ (c ++ (d ++ r))) ≡ (a ++ (b ++ (c ++ d))) ++ r
joined a b c d r =
    ap (λ (l : List ℕ). a ++ (b ++ l)) (sym (append_assoc c d r))
    ∙ ap (λ (l : List ℕ). a ++ l) (sym (append_assoc b (c ++ d) r))
    ∙ sym (append_assoc a (b ++ (c ++ d)) r)

-- ---- E11

pub passed_is : (content trail rest : List ℕ) (tail : Piece) (f : List ℕ → List ℕ) → length trail ≡ 4
    → passed (record { count = length content; tail = tail; last = 4 })
    (content ++ (trail ++ rest)) f
    ≡ content ++ (piece_bytes tail ++ (trail ++ f rest))
passed_is content trail rest tail f e =
    rw (
      take_at content (trail ++ rest) (length content) refl,
      drop_at content (trail ++ rest) (length content) refl,
      take_at trail rest 4 e,
      drop_at trail rest 4 e,
    ) refl

pub pad_size : (n : ℕ)
    → length (piece_bytes (if n % 2 == 1 then pieces.Zero else pieces.Nothing)) ≡ n % 2
pad_size n = go (n % 2 == 1) refl
  where
    go : (t : Bool) → (n % 2 == 1) ≡ t
        → length (piece_bytes (if t then pieces.Zero else pieces.Nothing)) ≡ n % 2
    go true e = grind (arith, nat_tests)
    go false e = grind (arith, nat_tests)

pub e11_block_leads : (before : Before) (w : ℕ) (content lead trail rest : List ℕ) → IsWord lead w
    → IsWord trail w → block_len w ≡ Some (length content)
    → Leads (bytes_after formats.E11 before (lead ++ (content ++ (trail ++ rest))))
    (item_of w content ∷ []) (bytes_after formats.E11 (after 0) rest)
e11_block_leads before w content lead trail rest a b n =
    let f : List ℕ → List ℕ = bytes_after formats.E11 (after 0) in
    let m = length content in
    let tail : Piece = if m % 2 == 1 then pieces.Zero else pieces.Nothing in
    let ys = content ++ (trail ++ rest) in
    leads_by _ (little_bytes 4 w ++ (content ++ (piece_bytes tail ++ trail))) (f rest)
    (item_of w content ∷ []) (block_there w content (piece_bytes tail) trail n (pad_size m) b)
    (by_first formats.E11 before (lead ++ ys) (e11_block w (Some m))
    (e11_looked before lead ys w a ∙ ap (e11_block w) n)
    ∙ ap (λ (l : List ℕ). little_bytes 4 w
    ++ passed (record { count = m; tail = tail; last = 4 }) l f) (drop_at lead ys 4 a.four)
    ∙ ap (λ (l : List ℕ). little_bytes 4 w ++ l) (passed_is content trail rest tail f b.four)
    ∙ joined (little_bytes 4 w) content (piece_bytes tail) trail (f rest))

pub three : (a b c r : List ℕ) → (a ++ (b ++ c)) ++ r ≡ a ++ (b ++ (c ++ r))
three a b c r =
    append_assoc a (b ++ c) r ∙ ap (λ (l : List ℕ). a ++ l) (append_assoc b c r)

pub e11_leads : (before : Before) (bytes rest : List ℕ) (given : List TapeItem) → IsE11 bytes given
    → Leads (bytes_after formats.E11 before (bytes ++ rest)) given
    (bytes_after formats.E11 (after 0) rest)
e11_leads before bytes rest given (encodings.e11_mark is e) =
    rw (e) (alone_leads formats.E11 before bytes rest mark_word (mark ∷ []) is.four
    (e11_looked before bytes rest mark_word is) mark_there)
e11_leads before bytes rest given (encodings.e11_gap is e) =
    rw (e) (alone_leads formats.E11 before bytes rest gap_word [] is.four
    (e11_looked before bytes rest gap_word is) gap_there)
e11_leads before bytes rest given (encodings.e11_block w content n bare e) =
    rw (e) (subst (λ (l : List ℕ). Leads (bytes_after formats.E11 before l)
    (item_of w content ∷ []) (bytes_after formats.E11 (after 0) rest))
    (sym (ap (λ (l : List ℕ). l ++ rest) bare.whole
    ∙ three bare.lead content bare.trail rest))
    (e11_block_leads before w content bare.lead bare.trail rest bare.lead_is bare.trail_is n))
