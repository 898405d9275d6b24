-- Images in several of SIMH's format, the extended one and E11's have the same items in each.
use Rattle.std.proofs.Common.{◌≡◌, inl, inr, ◌⊎◌, ℕ, zero, suc, ◌+◌, ◌/◌, ◌%◌, ◌^◌, ◌≤◌, ◌<◌, Bool, true, false}
use Rattle.std.proofs.Common.{List, [], ◌∷◌, ◌++◌, length, drop}
use Rattle.std.proofs.Common.{Some, refl, sym, ap, subst, ◌∙◌, arith, append_assoc}
use Rattle.std.proofs.Common.{length-append, length-drop, ◌==◌}
use Rattle.std.specs.List.{flat_map, AllByRecursion}
use lib.Seq.{drop_at, drop-drop}
use Rattle.std.proofs.lemmas.Bool.Decides.{nat_tests}
use Rattle.byteorder.specs.Endian.{little_number}
use Rattle.tape_image.specs.declared.format.ImageFormat.TheVariants as formats
use Rattle.tape_image.specs.declared.item.Ending.{Ending}
use Rattle.tape_image.specs.Tape.{TapeItem}
use Rattle.tape_image.specs.Word.{block_len}
use Rattle.tape_image.specs.Spelling.{IsSpelling, a_mark, a_gap, a_block, Spelling, Leads, item_of}
use Rattle.tape_image.specs.Spelling.{EndsHere}
use Rattle.tape_image.specs.FormatItems.{IsBare, IsE11, IsExtended, Encoding, bytes_of}
use Rattle.tape_image.specs.FormatItems.{AreEncodings}
use Rattle.tape_image.specs.FormatItems as encodings
use Rattle.tape_image.specs.FormatLaws.{AreBytes, SimhIsExtended, E11AndSimhAgree}
use Rattle.tape_image.specs.FormatLaws.{E11AndSimhAreApart, EvenE11IsSimh}
use Rattle.tape_image.proofs.{Words.word_in_front, Leads.Leads-nil, Leads.Leads-one}
use Rattle.tape_image.proofs.{Leads.Leads-trans}
use Rattle.tape_image.proofs.Spellings.{same_back, framed_long, framed_word, framed_trail}
use Rattle.tape_image.proofs.FormatExtended.{marker_class, no_block}
use Rattle.tape_image.proofs.FormatOne.{one_extended, bare_long, extended_ends}
use Rattle.tape_image.proofs.FormatOne.{e11_ends}

-- ---- each SIMH image is an extended one

as_encodings : List Spelling → List Encoding
as_encodings [] = []
as_encodings (s ∷ ss) =
    record { bytes = s.bytes; given = s.given; after = 0 } ∷ as_encodings ss

same_bytes : (ss : List Spelling)
    → flat_map (λ s. s.bytes) ss ≡ flat_map (λ e. e.bytes) (as_encodings ss)
unfolding as_encodings
same_bytes [] = refl
same_bytes (s ∷ ss) = ap (λ (l : List ℕ). s.bytes ++ l) (same_bytes ss)

same_given : (ss : List Spelling)
    → flat_map (λ s. s.given) ss ≡ flat_map (λ e. e.given) (as_encodings ss)
unfolding as_encodings
same_given [] = refl
same_given (s ∷ ss) = ap (λ (l : List TapeItem). s.given ++ l) (same_given ss)

as_extended : (ss : List Spelling) (rest : List ℕ)
    → AreEncodings formats.Extended 0 (as_encodings ss) rest
unfolding as_encodings
as_extended [] rest = tt
as_extended (s ∷ ss) rest = ((encodings.standard_item s.spelled, refl), as_extended ss rest)

pub simh_is_extended : SimhIsExtended
simh_is_extended xs items h = record {
  encodings = as_encodings h.leads.spellings;
  rest = h.rest;
  whole = h.leads.whole ∙ ap (λ (l : List ℕ). l ++ h.rest) (same_bytes h.leads.spellings);
  items_are = h.leads.items_are ∙ same_given h.leads.spellings;
  are = as_extended h.leads.spellings h.rest;
  ends = (h.ending, h.ended);
}

-- ---- an E11 block of even length is a block of SIMH's format

even_framed : (s : List ℕ) (w : ℕ) (content : List ℕ) (given : List TapeItem)
    → block_len w ≡ Some (length content) → IsBare s w content → length content % 2 ≡ 0
    → given ≡ item_of w content ∷ [] → IsSpelling s given
even_framed s w content given n f even e = a_block w content n
    (record {
      lead = f.lead;
      pad = [];
      trail = f.trail;
      whole = f.whole;
      lead_is = f.lead_is;
      pad_is = sym even;
      trail_is = f.trail_is;
    })
    e

even_spelled : (s : List ℕ) (given : List TapeItem) → IsE11 s given → length s % 2 ≡ 0
    → IsSpelling s given
even_spelled s given (encodings.e11_mark is e) even = a_mark is e
even_spelled s given (encodings.e11_gap is e) even = a_gap is e
even_spelled s given (encodings.e11_block w content n f e) even =
    even_framed s w content given n f (omega (arith, even, bare_long s w content f)) e

even_leads : (before : ℕ) (es : List Encoding) (rest : List ℕ)
    → AreEncodings formats.E11 before es rest
    → AllByRecursion (λ e. length e.bytes % 2 ≡ 0) es
    → Leads (bytes_of es rest) (flat_map (λ e. e.given) es) rest
even_leads before [] rest are even = Leads-nil rest
even_leads before (e ∷ es) rest ((is, z), are) (even, others) =
    subst (λ (l : List ℕ). Leads l (e.given ++ flat_map (λ x. x.given) es) rest)
    (sym (append_assoc e.bytes (flat_map (λ x. x.bytes) es) rest))
    (Leads-trans _ _ rest e.given (flat_map (λ x. x.given) es)
    (Leads-one e.bytes (bytes_of es rest) e.given (even_spelled e.bytes e.given is even))
    (even_leads e.after es rest are others))

pub even_e11 : EvenE11IsSimh
even_e11 xs items h even = record {
  rest = h.rest;
  leads = rw (h.whole, h.items_are) (even_leads 0 h.encodings h.rest h.are even);
  ending = h.ends.0;
  ended = h.ends.1;
}

-- ---- an E11 block of odd length is no encoding of the extended format

block_parts : (w n : ℕ) → block_len w ≡ Some n
    → (n ≡ w % 2 ^ 24) × ((w / 2 ^ 24 ≡ 0) ⊎ (w / 2 ^ 24 ≡ 128))
block_parts w n e = grind (arith, nat_tests)

-- five bytes that begin with a word, which begins again at the second of them, are equal
twice : (a b c d e w n : ℕ) → a < 256 → b < 256 → c < 256 → d < 256 → e < 256
    → little_number 4 (a ∷ b ∷ c ∷ d ∷ []) ≡ w → little_number 4 (b ∷ c ∷ d ∷ e ∷ []) ≡ w
    → n ≡ w % 2 ^ 24 → ((w / 2 ^ 24 ≡ 0) ⊎ (w / 2 ^ 24 ≡ 128)) → n % 2 ≡ 1 → ⊥
twice a b c d e w n p q r s t x y is (inl high) odd =
    omega (arith, p, q, r, s, t, x, y, is, high, odd)
twice a b c d e w n p q r s t x y is (inr high) odd =
    omega (arith, p, q, r, s, t, x, y, is, high, odd)

no_two_words : (zs : List ℕ) (w n : ℕ) → AreBytes zs → 5 ≤ length zs → block_len w ≡ Some n
    → little_number 4 zs ≡ w → little_number 4 (drop 1 zs) ≡ w → n % 2 ≡ 1 → ⊥
no_two_words (a ∷ b ∷ c ∷ d ∷ e ∷ r) w n (p, (q, (u, (s, (t, _))))) long is x y odd =
    let parts = block_parts w n is in
    twice a b c d e w n p q u s t x y parts.0 parts.1 odd
no_two_words [] w n bytes long is x y odd = omega (arith, long)
no_two_words (a ∷ []) w n bytes long is x y odd = omega (arith, long)
no_two_words (a ∷ b ∷ []) w n bytes long is x y odd = omega (arith, long)
no_two_words (a ∷ b ∷ c ∷ []) w n bytes long is x y odd = omega (arith, long)
no_two_words (a ∷ b ∷ c ∷ d ∷ []) w n bytes long is x y odd = omega (arith, long)

bytes_behind : (k : ℕ) (xs : List ℕ) → AreBytes xs → AreBytes (drop k xs)
bytes_behind zero xs h = h
bytes_behind (suc k) [] h = h
bytes_behind (suc k) (x ∷ xs) (_, h) = bytes_behind k xs h

bare_word : (s x : List ℕ) (w : ℕ) (content : List ℕ) → IsBare s w content
    → little_number 4 (s ++ x) ≡ w
bare_word s x w content f =
    ap (λ (l : List ℕ). little_number 4 (l ++ x)) f.whole
    ∙ ap (little_number 4) (append_assoc f.lead (content ++ f.trail) x)
    ∙ word_in_front f.lead ((content ++ f.trail) ++ x) w f.lead_is

bare_trail : (s x : List ℕ) (w : ℕ) (content : List ℕ) → IsBare s w content
    → little_number 4 (drop (4 + length content) (s ++ x)) ≡ w
bare_trail s x w content f =
    let n = length content in
    let cut : s ++ x ≡ (f.lead ++ content) ++ (f.trail ++ x) =
    ap (λ (l : List ℕ). l ++ x) f.whole ∙ simp append_assoc in
    let before : length (f.lead ++ content) ≡ 4 + n =
    omega (arith, length-append f.lead content, f.lead_is.four) in
    ap (λ (l : List ℕ). little_number 4 (drop (4 + n) l)) cut
    ∙ ap (little_number 4) (drop_at (f.lead ++ content) (f.trail ++ x) (4 + n) before)
    ∙ word_in_front f.trail x w f.trail_is

-- the word w of a block, at the start of bytes that begin with another encoding
other_word : (t y : List ℕ) (other : List TapeItem) (w n : ℕ) → block_len w ≡ Some n
    → IsExtended t y other → little_number 4 (t ++ y) ≡ w
    → (length t ≡ 8 + n + n % 2)
    × (little_number 4 (drop (4 + n + n % 2) (t ++ y)) ≡ w)
other_word t y other w n is (encodings.standard_item (a_mark m e)) at =
    cc (ap block_len (sym (word_in_front t y 0 m) ∙ at), is)
other_word t y other w n is (encodings.standard_item (a_gap m e)) at =
    cc (ap block_len (sym (word_in_front t y 0xFFFFFFFE m) ∙ at), is)
other_word t y other w n is (encodings.standard_item (a_block v content m f e)) at =
    let same : v ≡ w = sym (framed_word t y v content f) ∙ at in
    let size : length content ≡ n = cc (ap block_len same, m, is) in (
      omega (arith, framed_long t v content f, size),
      ap (λ k. little_number 4 (drop (4 + k + k % 2) (t ++ y))) (sym size)
          ∙ framed_trail t y v content f ∙ same,
    )
other_word t y other w n is (encodings.other_record v content h size f e) at =
    cc (ap block_len (sym (framed_word t y v content f) ∙ at), is, no_block v h.0 h.3)
other_word t y other w n is (encodings.a_marker v m h e) at =
    let class = marker_class v h in
    cc (ap block_len (sym (word_in_front t y v m) ∙ at), is, no_block v class.0 class.1)
other_word t y other w n is (encodings.bad_word m h e) at =
    cc (ap block_len (sym (word_in_front t y 0x80000000 m) ∙ at), is)
other_word t y other w n is (encodings.bad_words lead trail whole a b e) at =
    let front : little_number 4 (t ++ y) ≡ 0x80000000 =
    ap (λ (l : List ℕ). little_number 4 (l ++ y)) whole
    ∙ ap (little_number 4) (append_assoc lead trail y)
    ∙ word_in_front lead (trail ++ y) 0x80000000 a in
    cc (ap block_len (sym front ∙ at), is)
other_word t y other w n is (encodings.half_gap m h e) at =
    cc (ap block_len (sym (word_in_front t y 0xFFFEFFFF m) ∙ at), is)
other_word t y other w n is (encodings.gap_behind more whole behind e) at =
    let front : little_number 4 (t ++ y) ≡ 0xFFFEFFFF =
    ap (λ (l : List ℕ). little_number 4 (l ++ y)) whole
    ∙ ap (λ (l : List ℕ). little_number 4 (255 ∷ 255 ∷ l)) behind in
    cc (ap block_len (sym front ∙ at), is)

odd_apart : (s t x y : List ℕ) (w : ℕ) (content : List ℕ) (other : List TapeItem)
    → AreBytes (s ++ x) → block_len w ≡ Some (length content) → IsBare s w content
    → IsExtended t y other → s ++ x ≡ t ++ y → length content % 2 ≡ 1 → ⊥
odd_apart s t x y w content other bytes is f b e odd =
    let n = length content in
    let found = other_word t y other w n is b
    (ap (little_number 4) (sym e) ∙ bare_word s x w content f) in
    let behind : drop 1 (drop (4 + n) (s ++ x)) ≡ drop (4 + n + n % 2) (t ++ y) =
    drop-drop 1 (4 + n) (s ++ x) ∙ ap (λ k. drop k (s ++ x)) {x = 4 + n + 1} {y = 4 + n + n % 2}
    (omega (arith, odd)) ∙ ap (drop (4 + n + n % 2)) e in
    no_two_words (drop (4 + n) (s ++ x)) w n (bytes_behind (4 + n) (s ++ x) bytes)
    (omega (arith, length-drop (4 + n) (s ++ x), ap length e, length-append t y, found.0, odd))
    is (bare_trail s x w content f) (ap (little_number 4) behind ∙ found.1) odd

pub apart : E11AndSimhAreApart
apart s t x y given other bytes (encodings.e11_mark is g) b e =
    one_extended s t x y given other (encodings.standard_item (a_mark is g)) b e
apart s t x y given other bytes (encodings.e11_gap is g) b e =
    one_extended s t x y given other (encodings.standard_item (a_gap is g)) b e
apart s t x y given other bytes (encodings.e11_block w content n f g) b e =
    go (length content % 2 == 0) refl
  where
    go : (t' : Bool) → (length content % 2 == 0) ≡ t' → (s ≡ t) × (given ≡ other)
    go true h = one_extended s t x y given other (encodings.standard_item
        (even_framed s w content given n f (grind (arith, nat_tests)) g)) b e
    go false h =
        let odd : length content % 2 ≡ 1 = grind (arith, nat_tests) in
        absurd (odd_apart s t x y w content other bytes n f b e odd)

-- ---- images

bytes_after : (s x : List ℕ) → AreBytes (s ++ x) → AreBytes x
bytes_after [] x h = h
bytes_after (b ∷ s) x (_, h) = bytes_after s x h

-- two lists of encodings of the same bytes, each up to the end of the medium
agree : (before other : ℕ) (es fs : List Encoding) (x y : List ℕ) (end far : Ending)
    → AreBytes (bytes_of es x) → AreEncodings formats.E11 before es x
    → AreEncodings formats.Extended other fs y → EndsHere end x → EndsHere far y
    → bytes_of es x ≡ bytes_of fs y
    → flat_map (λ e. e.given) es ≡ flat_map (λ e. e.given) fs
agree before other [] [] x y end far bytes are be a b e = refl
agree before other [] (f ∷ fs) x y end far bytes are ((is, z), be) a b e =
    absurd (extended_ends f.bytes (bytes_of fs y) f.given is end
    (subst (EndsHere end) (e ∙ append_assoc f.bytes (flat_map (λ v. v.bytes) fs) y) a))
agree before other (f ∷ fs) [] x y end far bytes ((is, z), are) be a b e =
    absurd (e11_ends f.bytes (bytes_of fs x) f.given is far
    (subst (EndsHere far) (sym e ∙ append_assoc f.bytes (flat_map (λ v. v.bytes) fs) x) b))
agree before other (f ∷ fs) (g ∷ gs) x y end far bytes ((is, z), are) ((it, k), be) a b e =
    let left = append_assoc f.bytes (flat_map (λ v. v.bytes) fs) x in
    let right = append_assoc g.bytes (flat_map (λ v. v.bytes) gs) y in
    let whole : f.bytes ++ bytes_of fs x ≡ g.bytes ++ bytes_of gs y = sym left ∙ e ∙ right in
    let all : AreBytes (f.bytes ++ bytes_of fs x) = subst AreBytes left bytes in
    let one = apart f.bytes g.bytes _ _ f.given g.given all is it whole in
    let next = agree f.after g.after fs gs x y end far
    (bytes_after f.bytes (bytes_of fs x) all) are be a b
    (same_back f.bytes g.bytes _ _ (ap length one.0) whole) in
    cc (one.1, next)

pub agreed : E11AndSimhAgree
agreed xs items others bytes a b =
    a.items_are
    ∙ agree 0 0 a.encodings b.encodings a.rest b.rest a.ends.0 b.ends.0
    (subst AreBytes a.whole bytes) a.are b.are a.ends.1 b.ends.1 (sym a.whole ∙ b.whole)
    ∙ sym b.items_are
