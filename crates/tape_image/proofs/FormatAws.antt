-- Bytes begin with at most one encoding of an AWS image, and the laws over all formats.
use Rattle.std.proofs.Common.{◌≡◌, ℕ, ◌<◌, ◌^◌, List, [], ◌∷◌, ◌++◌, length, drop, refl, sym}
use Rattle.std.proofs.Common.{ap, subst, ◌∙◌, arith, append_assoc, length-append}
use Rattle.std.specs.List.{flat_map, AllByRecursion}
use Rattle.std.proofs.Common.{◌≢◌, ◌+◌}
use Rattle.byteorder.specs.Endian.{little_number, little_bytes}
use Rattle.byteorder.specs.Numbers.{little_number-reads_back}
use Rattle.tape_image.specs.declared.format.ImageFormat.TheVariants as formats
use Rattle.tape_image.specs.declared.item.Ending.{Ending}
use Rattle.tape_image.specs.Tape.{TapeItem}
use Rattle.tape_image.specs.Spelling.{item_of, Spelling, Spells, EndsHere}
use Rattle.tape_image.specs.FormatItems.{chunk, chunks, IsChunk, joined, last_len, IsAws, Encoding}
use Rattle.tape_image.specs.FormatItems as encodings
use Rattle.tape_image.specs.FormatLaws.{ItemsAreUnique, EncodingsAreUnique}
use Rattle.tape_image.specs.FormatLaws.{NoEncodingBeginsAnother}
use Rattle.tape_image.proofs.Spellings.{same_front, same_back, one_spelling, empty}
use Rattle.tape_image.proofs.FormatOne.{one_extended, one_e11, extended_ends}
use Rattle.tape_image.proofs.FormatItems.{keep_items}

-- ---- AWS

-- a header of a length, the length before, and flags
abbrev header : ℕ → ℕ → ℕ → List ℕ → List ℕ
header n before flag rest = little_bytes 2 n ++ (little_bytes 2 before ++ flag ∷ 0 ∷ rest)

first_is : (a b : ℕ) (x y : List ℕ) → a ∷ x ≡ b ∷ y → a ≡ b
first_is a b x y e = cc e

-- two headers at the start of the same bytes
one_header : (before m n a b : ℕ) (x y : List ℕ) → m < 2 ^ 16 → n < 2 ^ 16
    → header m before a x ≡ header n before b y → (m ≡ n) × (a ≡ b) × (x ≡ y)
one_header before m n a b x y h k e = (
  sym (little_number-reads_back 2 m (little_bytes 2 before ++ a ∷ 0 ∷ x) (omega (arith, h)))
      ∙ ap (little_number 2) e
      ∙ little_number-reads_back 2 n (little_bytes 2 before ++ b ∷ 0 ∷ y) (omega (arith, k)),
  first_is a b (0 ∷ x) (0 ∷ y) (ap (drop 4) e),
  ap (drop 6) e,
)

-- two lists of chunks at the start of the same bytes
chunks_once : (first before : ℕ) (cs ds : List (List ℕ)) (x y : List ℕ) → cs ≢ [] → ds ≢ []
    → AllByRecursion IsChunk cs → AllByRecursion IsChunk ds
    → chunks first before cs ++ x ≡ chunks first before ds ++ y → cs ≡ ds
chunks_once first before [] ds x y some more are be e = absurd (some refl)
chunks_once first before (c ∷ cs) [] x y some more are be e = absurd (more refl)
chunks_once first before (c ∷ []) (d ∷ []) x y some more ((s, few), _) ((t, less), _) e =
    let one = one_header before (length c) (length d) (first + 0x20) (first + 0x20) (c ++ x)
    (d ++ y) few less e in
    ap (λ (l : List ℕ). l ∷ []) (same_front c d x y one.0 one.2)
chunks_once first before (c ∷ []) (d ∷ f ∷ ds) x y some more ((s, few), _) ((t, less), _) e =
    let one = one_header before (length c) (length d) (first + 0x20) first (c ++ x)
    ((d ++ chunks 0 (length d) (f ∷ ds)) ++ y) few less e in
    absurd (omega (arith, one.1))
chunks_once first before (c ∷ g ∷ cs) (d ∷ []) x y some more ((s, few), _) ((t, less), _) e =
    let one = one_header before (length c) (length d) first (first + 0x20)
    ((c ++ chunks 0 (length c) (g ∷ cs)) ++ x) (d ++ y) few less e in
    absurd (omega (arith, one.1))
chunks_once first before (c ∷ g ∷ cs) (d ∷ f ∷ ds) x y some more ((s, few), are) ((t, less), be) e =
    let one = one_header before (length c) (length d) first first
    ((c ++ chunks 0 (length c) (g ∷ cs)) ++ x) ((d ++ chunks 0 (length d) (f ∷ ds)) ++ y) few less
    e in
    let parts = sym (append_assoc c (chunks 0 (length c) (g ∷ cs)) x) ∙ one.2
    ∙ append_assoc d (chunks 0 (length d) (f ∷ ds)) y in
    let front = same_front c d _ _ one.0 parts in
    let behind = same_back c d _ _ one.0 parts in
    let next = chunks_once 0 (length c) (g ∷ cs) (f ∷ ds) x y (λ z. absurd (cc z))
    (λ z. absurd (cc z)) are be
    (behind ∙ ap (λ (n : ℕ). chunks 0 n (f ∷ ds) ++ y) (sym one.0)) in
    cc (front, next)

-- a mark is no block
mark_apart : (before : ℕ) (cs : List (List ℕ)) (x y : List ℕ) → cs ≢ []
    → AllByRecursion IsChunk cs → chunk 0x40 before [] ++ x ≡ chunks 0x80 before cs ++ y → ⊥
mark_apart before [] x y some are e = some refl
mark_apart before (c ∷ []) x y some ((s, few), _) e =
    let one = one_header before 0 (length c) 0x40 0xA0 x (c ++ y) (omega arith) few e in
    omega (arith, one.1)
mark_apart before (c ∷ d ∷ cs) x y some ((s, few), _) e =
    let one = one_header before 0 (length c) 0x40 0x80 x
    ((c ++ chunks 0 (length c) (d ∷ cs)) ++ y) (omega arith) few e in
    omega (arith, one.1)

one_aws : (before : ℕ) (s t x y : List ℕ) (g h : List TapeItem) (m n : ℕ) → IsAws before s g m
    → IsAws before t h n → s ++ x ≡ t ++ y → (s ≡ t) × (g ≡ h) × (m ≡ n)
one_aws before s t x y g h m n (encodings.aws_mark a b c) (encodings.aws_mark d e f) same =
    (a ∙ sym d, b ∙ sym e, c ∙ sym f)
one_aws before s t x y g h m n (encodings.aws_mark a b c)
    (encodings.aws_block ds some are d e f) same =
    absurd (mark_apart before ds x y some are
    (ap (λ (l : List ℕ). l ++ x) (sym a) ∙ same ∙ ap (λ (l : List ℕ). l ++ y) d))
one_aws before s t x y g h m n (encodings.aws_block cs some are a b c)
    (encodings.aws_mark d e f) same =
    absurd (mark_apart before cs y x some are
    (ap (λ (l : List ℕ). l ++ y) (sym d) ∙ sym same ∙ ap (λ (l : List ℕ). l ++ x) a))
one_aws before s t x y g h m n (encodings.aws_block cs some are a b c)
    (encodings.aws_block ds more be d e f) same =
    let one = chunks_once 0x80 before cs ds x y some more are be
    (ap (λ (l : List ℕ). l ++ x) (sym a) ∙ same ∙ ap (λ (l : List ℕ). l ++ y) d) in (
      a ∙ ap (chunks 0x80 before) one ∙ sym d,
      b ∙ ap (λ (l : List (List ℕ)). item_of (length (joined l)) (joined l) ∷ []) one ∙ sym e,
      c ∙ ap last_len one ∙ sym f,
    )

-- ---- all formats

same_encoding : (e f : Encoding) → e.bytes ≡ f.bytes → e.given ≡ f.given → e.after ≡ f.after
    → e ≡ f
same_encoding e f a b c =
    let one : List ℕ → Encoding =
    λ z. record { bytes = z; given = e.given; after = e.after } in
    let two : List TapeItem → Encoding =
    λ z. record { bytes = f.bytes; given = z; after = e.after } in
    let three : ℕ → Encoding = λ z. record { bytes = f.bytes; given = f.given; after = z } in
    ap one a ∙ ap two b ∙ ap three c

pub one_encoding : EncodingsAreUnique
one_encoding formats.Extended before e f rest more (a, z) (b, k) same =
    let one = one_extended e.bytes f.bytes rest more e.given f.given a b same in
    same_encoding e f one.0 one.1 (z ∙ sym k)
one_encoding formats.E11 before e f rest more (a, z) (b, k) same =
    let one = one_e11 e.bytes f.bytes rest more e.given f.given a b same in
    same_encoding e f one.0 one.1 (z ∙ sym k)
one_encoding formats.Aws before e f rest more a b same =
    let one = one_aws before e.bytes f.bytes rest more e.given f.given e.after f.after a b same in
    same_encoding e f one.0 one.1 one.2

pub no_beginning : NoEncodingBeginsAnother
no_beginning format before e f more rest a b whole =
    let one = one_encoding format before e f (more ++ rest) rest a b
    (sym (append_assoc e.bytes more rest) ∙ ap (λ (l : List ℕ). l ++ rest) (sym whole)) in
    empty more (omega (
      arith,
      ap (λ v. length v.bytes) one,
      ap length whole,
      length-append e.bytes more,
    ))

-- ---- the items of SIMH images

spelled_once : (fs gs : List Spelling) (x y : List ℕ) (end far : Ending) → EndsHere end x
    → EndsHere far y
    → flat_map (λ s. s.bytes) fs ++ x ≡ flat_map (λ s. s.bytes) gs ++ y
    → flat_map (λ s. s.given) fs ≡ flat_map (λ s. s.given) gs
spelled_once [] [] x y end far a b e = refl
spelled_once [] (g ∷ gs) x y end far a b e =
    absurd (extended_ends g.bytes (flat_map (λ s. s.bytes) gs ++ y) g.given
    (encodings.standard_item g.spelled) end (subst (EndsHere end)
    (e ∙ append_assoc g.bytes (flat_map (λ s. s.bytes) gs) y) a))
spelled_once (f ∷ fs) [] x y end far a b e =
    absurd (extended_ends f.bytes (flat_map (λ s. s.bytes) fs ++ x) f.given
    (encodings.standard_item f.spelled) far (subst (EndsHere far)
    (sym e ∙ append_assoc f.bytes (flat_map (λ s. s.bytes) fs) x) b))
spelled_once (f ∷ fs) (g ∷ gs) x y end far a b e =
    let left = append_assoc f.bytes (flat_map (λ s. s.bytes) fs) x in
    let right = append_assoc g.bytes (flat_map (λ s. s.bytes) gs) y in
    let whole = sym left ∙ e ∙ right in
    let one = one_spelling f.bytes g.bytes _ _ f.given g.given f.spelled g.spelled whole in
    let next = spelled_once fs gs x y end far a b
    (same_back f.bytes g.bytes _ _ (ap length one.0) whole) in
    cc (one.1, next)

spells_once : (xs : List ℕ) (items others : List TapeItem) → Spells xs items → Spells xs others
    → items ≡ others
spells_once xs items others a b =
    a.leads.items_are
    ∙ spelled_once a.leads.spellings b.leads.spellings a.rest b.rest a.ending b.ending a.ended
    b.ended (sym a.leads.whole ∙ b.leads.whole)
    ∙ sym b.leads.items_are

pub items_once : ItemsAreUnique
items_once format xs items others a b =
    spells_once _ items others (keep_items format xs items a) (keep_items format xs others b)
